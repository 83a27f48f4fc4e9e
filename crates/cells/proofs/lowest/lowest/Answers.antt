use Rattle.cells.proofs.LowestLaws.{peel}
use Rattle.cells.proofs.lowest.lowest.Goals as goal

pub returns : goal.returns
returns c = peel 64 c.args.x c.requires c.ranges.x.fits
