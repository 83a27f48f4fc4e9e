use Prim.Native.Nat.{ℕ}
use lib.ListN.{length}
use Rattle.matrix.specs.ByRow.{RowsHold, MakesRows}
use Rattle.matrix.proofs.by_row.by_row.Given as goal

abbrev pub invariant-loop-i : goal.invariant-loop-i
invariant-loop-i g l = (f : ℕ → ℕ → ℕ → ℕ) → MakesRows g.F.Fn l.make l.r l.c f → RowsHold f l.i l.q (length l.initial.out) l.out
