use mathlib.Core.Path.{◌≡◌}
use Prim.Native.Nat.{◌*◌, min}
use Rattle.rows.specs.Row.{column}
use Rattle.rows.specs.Tally.{columns_with}
use Rattle.rows.proofs.tally.tally.Given as goal

abbrev pub invariant-loop-p : goal.invariant-loop-p
invariant-loop-p l = (l.zeros ≡ columns_with 0 (column l.a l.x l.q) (min l.c (64 * l.p))) × (l.ones ≡ columns_with 1 (column l.a l.x l.q) (min l.c (64 * l.p))) × (l.twos ≡ columns_with 2 (column l.a l.x l.q) (min l.c (64 * l.p)))
