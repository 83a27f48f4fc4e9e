use lib.ListN.{length}
use Rattle.buffers.specs.Buffer.{cell}
use Rattle.matrix.proofs.UnpackLaws.{BytesMade}
use Rattle.matrix.proofs.unpack.unpack_rows.Given as goal

abbrev pub invariant-loop-i : goal.invariant-loop-i
invariant-loop-i l = BytesMade (cell l.a.columns l.a.words.now) l.a.columns l.i (length l.initial.out) l.out
