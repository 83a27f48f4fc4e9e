-- Each word is 0 less a bit, so that it has the bit at every place. Assumes nothing.
use Rattle.cells.proofs.ScalingLaws.{spread_law}
use Rattle.std.proofs.Common.{arith}
use Rattle.cells.proofs.scaling.spread.Goals as goal

pub returns : goal.returns
returns c = spread_law c.args.d c.wrapping_neg.result c.wrapping_neg-2.result c.requires (omega arith) (omega arith) c.wrapping_neg.ensures c.wrapping_neg-2.ensures
