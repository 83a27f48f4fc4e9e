-- the best of the widths below k, with its quote
use mathlib.Core.Path.{◌≡◌}
use Prim.Native.Nat.{◌-◌}
use Rattle.steps.specs.Count.{quote}
use Rattle.steps.specs.Width.{cheapest}
use Rattle.matrix.proofs.default_width.default_width.Given as goal

abbrev pub invariant-loop-k : goal.invariant-loop-k
invariant-loop-k l = (l.best.width ≡ cheapest (quote l.m l.l) (l.k - 2)) × (l.best.steps ≡ quote l.m l.l l.best.width)
