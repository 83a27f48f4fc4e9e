use Prim.Native.Nat.{◌*◌, min}
use lib.ListN.{length}
use Rattle.rows.proofs.MatrixLaws.{RowsMade}
use Rattle.matrix.specs.RowBlocks.{column}
use Rattle.matrix.proofs.transpose.transpose_rows.Given as goal

abbrev pub invariant-loop-k : goal.invariant-loop-k
invariant-loop-k l = RowsMade (column l.a.rows l.a.columns l.a.words.now) (min (64 * l.k) l.a.columns) l.q (length l.initial.out) l.out
