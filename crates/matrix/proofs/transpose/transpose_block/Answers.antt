use mathlib.Core.Path.{refl, ◌∙◌}
use Prim.Native.Nat.{◌+◌}
use Rattle.buffers.proofs.SizeLaws.{planes_le, planes_tight}
use Rattle.matrix.proofs.TransposeLaws.{block_in, column_holds, word_made}
use native.Mathlib.Omega.{arith}
use Rattle.matrix.proofs.transpose.transpose_block.Goals as goal

pub overflow_mul-w : goal.overflow_mul-w
overflow_mul-w c = omega (arith, planes_le _ c.args.a.now.few_columns)

pub overflow_mul-v : goal.overflow_mul-v
overflow_mul-v c = omega (arith, planes_le _ c.args.a.now.few_rows)

pub overflow_mul-x : goal.overflow_mul-x
overflow_mul-x c = omega (arith, planes_le _ c.args.a.now.few_rows)

pub overflow_mul-x-2 : goal.overflow_mul-x-2
overflow_mul-x-2 c = omega (arith, (block_in c.args.a.now.rows c.args.a.now.columns c.args.p c.args.a.now.plane c.args.k _ _ c.args.a.now.few_rows c.args.a.now.few_columns c.args.a.now.whole_plane (omega arith) (omega arith) c.args.a.now.legal.long refl).start)

pub overflow_add-x : goal.overflow_add-x
overflow_add-x c = omega (arith, (block_in c.args.a.now.rows c.args.a.now.columns c.args.p c.args.a.now.plane c.args.k _ _ c.args.a.now.few_rows c.args.a.now.few_columns c.args.a.now.whole_plane (omega arith) (omega arith) c.args.a.now.legal.long refl).start)

pub overflow_mul-y : goal.overflow_mul-y
overflow_mul-y c = omega (arith, planes_le _ c.args.a.now.few_columns)

pub overflow_mul-y-2 : goal.overflow_mul-y-2
overflow_mul-y-2 c = omega (arith, (block_in c.args.a.now.columns c.args.a.now.rows c.args.k c.args.q c.args.p _ _ c.args.a.now.few_columns c.args.a.now.few_rows c.requires.1 (omega arith) (omega arith) c.requires.0 refl).start)

pub overflow_add-y : goal.overflow_add-y
overflow_add-y c = omega (arith, (block_in c.args.a.now.columns c.args.a.now.rows c.args.k c.args.q c.args.p _ _ c.args.a.now.few_columns c.args.a.now.few_rows c.requires.1 (omega arith) (omega arith) c.requires.0 refl).start)

pub real-n-requires : goal.real-n-requires
real-n-requires c = (c.args.a.now.few_rows, omega (arith, planes_tight c.args.a.now.rows))

pub real-m-requires : goal.real-m-requires
real-m-requires c = (c.args.a.now.few_columns, omega (arith, planes_tight c.args.a.now.columns))

pub block-requires : goal.block-requires
block-requires c = (
  rw c.real-n.ensures (block_in c.args.a.now.rows c.args.a.now.columns c.args.p c.args.a.now.plane c.args.k _ _ c.args.a.now.few_rows c.args.a.now.few_columns c.args.a.now.whole_plane (omega arith) (omega arith) c.args.a.now.legal.long refl),
  rw c.real-m.ensures (block_in c.args.a.now.columns c.args.a.now.rows c.args.k c.args.q c.args.p _ _ c.args.a.now.few_columns c.args.a.now.few_rows c.requires.1 (omega arith) (omega arith) c.requires.0 refl),
  omega arith,
)

pub overflow_add-x-2 : goal.overflow_add-x-2
overflow_add-x-2 c = omega (arith, (block_in c.args.a.now.rows c.args.a.now.columns c.args.p c.args.a.now.plane c.args.k _ _ c.args.a.now.few_rows c.args.a.now.few_columns c.args.a.now.whole_plane (omega arith) (omega arith) c.args.a.now.legal.long refl).start, planes_le _ c.args.a.now.few_columns)

pub overflow_add-y-2 : goal.overflow_add-y-2
overflow_add-y-2 c = omega (arith, (block_in c.args.a.now.columns c.args.a.now.rows c.args.k c.args.q c.args.p _ _ c.args.a.now.few_columns c.args.a.now.few_rows c.requires.1 (omega arith) (omega arith) c.requires.0 refl).start, planes_le _ c.args.a.now.few_rows)

pub block-requires-2 : goal.block-requires-2
block-requires-2 c = (
  rw c.real-n.ensures (block_in c.args.a.now.rows c.args.a.now.columns c.args.p c.args.a.now.plane (c.args.k + c.args.a.now.plane) _ _ c.args.a.now.few_rows c.args.a.now.few_columns c.args.a.now.whole_plane (omega arith) (omega arith) c.args.a.now.legal.long (omega arith)),
  rw c.real-m.ensures (block_in c.args.a.now.columns c.args.a.now.rows c.args.k c.args.q (c.args.p + c.args.q) _ _ c.args.a.now.few_columns c.args.a.now.few_rows c.requires.1 (omega arith) (omega arith) (c.block.ensures.long ∙ c.requires.0) (omega arith)),
  omega arith,
)

pub returns : goal.returns
returns c =
    word_made _ _ _ _ _ _ _ _ _ _ _ c.requires.3 refl
    (λ t l. column_holds c.args.a.now.rows c.args.a.now.columns c.args.a.now.words.now c.args.k t c.args.p c.args.a.now.plane (omega arith) c.args.a.now.whole_plane c.args.a.now.legal (omega arith))
    (rw (c.real-n.ensures, c.real-m.ensures) at c.block.ensures) (rw (c.real-n.ensures, c.real-m.ensures) at c.block-2.ensures)
