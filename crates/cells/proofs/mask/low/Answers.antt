use Rattle.cells.proofs.MaskLaws.{low_shift}
use Rattle.cells.proofs.mask.low.Goals as goal

pub returns : goal.returns
returns c = low_shift _ c.requires.1
