use Prim.Native.Nat.{◌+◌, ◌-◌, ◌*◌, min}
use Rattle.matrix.specs.RowBlocks.{column, BlockMade}
use Rattle.matrix.proofs.transpose.transpose_64_rows.Given as goal

abbrev pub invariant-loop-p : goal.invariant-loop-p
invariant-loop-p l = BlockMade (λ t. column l.a.rows l.a.columns l.a.words.now (64 * l.k + t)) (64 * l.k * (2 * l.q)) l.q (min 64 (l.a.columns - 64 * l.k)) l.p l.initial.out l.out
