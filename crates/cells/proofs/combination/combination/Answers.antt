-- The sum with what the digit at every place makes of y. Assumes nothing.
use Rattle.std.proofs.Common.{ap, ◌∙◌, arith}
use Rattle.cells.specs.Digit.{combine}
use Rattle.cells.specs.Pair.{at}
use Rattle.cells.proofs.PairLaws.{holds_cong}
use Rattle.cells.proofs.ScalingLaws.{scale_law, combine_scaled}
use Rattle.cells.proofs.combination.combination.Goals as goal

pub returns : goal.returns
returns c =
    let scaled = scale_law c.args.y.unit _ _ _ _ _ c.args.d (omega arith) c.requires.1 c.spread.ensures c.times.ensures in
    holds_cong (λ t. ap (combine 1 (at c.args.x t)) (scaled.digits t) ∙ combine_scaled c.args.d _ _) c.sum.ensures
