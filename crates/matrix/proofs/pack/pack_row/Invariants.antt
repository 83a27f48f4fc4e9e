use Prim.Native.Nat.{◌+◌, ◌-◌, ◌*◌, min}
use lib.ListN.{length, get_or}
use Rattle.rows.specs.Row.{Made}
use Rattle.matrix.specs.Gathered.{up_to}
use Rattle.matrix.proofs.pack.pack_row.Given as goal

abbrev pub invariant-loop-p : goal.invariant-loop-p
invariant-loop-p l = Made (λ p. up_to (min 64 (length l.row - 64 * p)) (λ t. get_or l.row (64 * p + t) 0)) l.x l.q l.p l.initial.out l.out
