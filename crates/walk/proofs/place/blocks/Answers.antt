use Rattle.walk.proofs.CountLaws.{rounded_up}
use Rattle.walk.proofs.place.blocks.Goals as goal

pub returns : goal.returns
returns c = rounded_up c.args.l c.args.k _ c.requires.1 c.div_ceil.ensures
