use mathlib.Core.Path.{◌≡◌}
use Prim.Native.Nat.{ℕ, ◌*◌, ◌<◌, min}
use lib.ListN.{length, get_or}
use Rattle.rows.specs.Row.{column}
use Rattle.matrix.proofs.unpack.unpack_row.Given as goal

abbrev pub invariant-loop-p : goal.invariant-loop-p
invariant-loop-p l = (j : ℕ) → j < min (length l.initial.row) (64 * l.p) → get_or l.row j 0 ≡ column l.a l.x l.q j
