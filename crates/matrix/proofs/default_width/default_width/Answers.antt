use mathlib.Core.Path.{refl}
use native.Mathlib.Omega.{arith}
use Rattle.steps.specs.Count.{quote}
use Rattle.steps.specs.Width.{cheapest}
use Rattle.matrix.proofs.WidthLaws.{cheapest_next, cheapest_all}
use Rattle.matrix.proofs.default_width.default_width.Goals as goal

pub loop-k-init : goal.loop-k-init
unfolding cheapest
loop-k-init c = (refl, c.quoted.ensures)

pub loop-k-preserved : goal.loop-k-preserved
loop-k-preserved c = (cheapest_next (quote _ _) _ _ _ (omega arith) c.loop-k.invariant.0 c.better_of-best.ensures.0, c.better_of-best.ensures.1)

pub returns : goal.returns
returns c = cheapest_all _ _ _ _ (omega arith) c.loop-k.invariant.0
