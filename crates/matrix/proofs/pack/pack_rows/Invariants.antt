use Prim.Native.Nat.{◌+◌, ◌-◌, ◌*◌, min}
use lib.ListN.{length, get_or}
use Rattle.rows.proofs.MatrixLaws.{RowsMade}
use Rattle.matrix.specs.Gathered.{up_to}
use Rattle.matrix.proofs.pack.pack_rows.Given as goal

abbrev pub invariant-loop-i : goal.invariant-loop-i
invariant-loop-i l = RowsMade (λ k p. up_to (min 64 (l.c - 64 * p)) (λ t. get_or l.cells (k * l.c + 64 * p + t) 0)) l.i l.q (length l.initial.out) l.out
