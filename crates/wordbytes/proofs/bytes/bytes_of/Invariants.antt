use Prim.Native.Nat.{◌*◌}
use Rattle.wordbytes.proofs.ByteLaws.{Filled, byte_at}
use Rattle.wordbytes.proofs.bytes.bytes_of.Given as goal

abbrev pub invariant-loop-p : goal.invariant-loop-p
invariant-loop-p l = Filled (byte_at l.words) (8 * l.p) l.bytes
