use Prim.Native.Nat.{◌-◌}
use lib.ListN.{length}
use Rattle.multiply.proofs.ReadLaws.{Goes}
use Rattle.multiply.proofs.input.read_text.Given as goal

abbrev pub invariant-loop-bytes : goal.invariant-loop-bytes
invariant-loop-bytes l = Goes l.buffer l.bytes l.last

abbrev pub decreases-loop-bytes : goal.decreases-loop-bytes
decreases-loop-bytes l = length l.buffer - l.bytes
