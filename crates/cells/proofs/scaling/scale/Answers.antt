-- The product by a digit at every place is the product by the digit. Assumes nothing.
use Rattle.cells.proofs.ScalingLaws.{scale_law}
use Rattle.std.proofs.Common.{arith}
use Rattle.cells.proofs.scaling.scale.Goals as goal

pub returns : goal.returns
returns c = scale_law c.args.x.unit _ _ _ _ _ c.args.d (omega arith) c.requires.0 c.spread.ensures c.product.ensures
