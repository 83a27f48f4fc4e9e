use mathlib.Core.Path.{◌≡◌}
use Prim.Native.Nat.{◌-◌, ◌^◌}
use Rattle.cells.specs.Counts.{sum}
use Rattle.steps.specs.StepList.{block_width}
use Rattle.walk.proofs.many.tables.Given as goal

abbrev pub invariant-loop-c : goal.invariant-loop-c
invariant-loop-c l = l.t ≡ sum l.b (l.c - l.b) (λ c. 2 ^ block_width l.l l.k c - 1)
