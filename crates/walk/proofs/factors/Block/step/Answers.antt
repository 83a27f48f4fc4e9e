use mathlib.Core.Path.{ap, ◌∙◌}
use Prim.Native.Nat.{ℕ, ◌+◌, ◌*◌, ◌^◌, ◌<◌}
use native.Mathlib.Nat.{mul-le-mul}
use lib.Pow.{pow_mono}
use Rattle.buffers.proofs.SizeLaws.{planes_le, row_fits}
use Rattle.rows.proofs.MatrixLaws.{row_readable, row_ends}
use Rattle.walk.proofs.CountLaws.{pow_small}
use Rattle.walk.proofs.PieceLaws.{low_facts}
use Rattle.walk.proofs.RanLaws.{ran_table_step}
use native.Mathlib.Omega.{arith}
use Rattle.walk.proofs.factors.Block.step.Goals as goal

pub overflow_mul-wide : goal.overflow_mul-wide
overflow_mul-wide c =
    let block = c.args.self.now in
    let f = block.factors in
    omega (arith, c.requires.3, f.b.whole_plane, planes_le _ f.b.few_columns)

pub overflow_mul-y : goal.overflow_mul-y
overflow_mul-y c =
    let block = c.args.self.now in
    let f = block.factors in
    let low = low_facts block.start f.b.rows block.width c.args.x _ _ (omega (arith, block.inside, f.joined)) c.requires.1 c.requires.2 c.lowest-low.ensures in
    omega (arith, mul-le-mul {n₁ = c.lowest-low.result.rest} {m₁ = 2 * c.args.q} {n₂ = 256} {m₂ = 32} (omega (arith, low.less, pow_small block.width (omega (arith, block.narrow, f.narrow)))) (omega (arith, c.requires.3, f.b.whole_plane, planes_le _ f.b.few_columns)))

pub overflow_cast-z : goal.overflow_cast-z
overflow_cast-z c =
    let block = c.args.self.now in
    let f = block.factors in
    let low = low_facts block.start f.b.rows block.width c.args.x _ _ (omega (arith, block.inside, f.joined)) c.requires.1 c.requires.2 c.lowest-low.ensures in
    omega (arith, low.row, f.b.few_rows)

pub overflow_add-z : goal.overflow_add-z
overflow_add-z c =
    let block = c.args.self.now in
    let f = block.factors in
    let low = low_facts block.start f.b.rows block.width c.args.x _ _ (omega (arith, block.inside, f.joined)) c.requires.1 c.requires.2 c.lowest-low.ensures in
    omega (arith, low.row, f.b.few_rows)

pub overflow_mul-z : goal.overflow_mul-z
overflow_mul-z c =
    let block = c.args.self.now in
    let f = block.factors in
    let low = low_facts block.start f.b.rows block.width c.args.x _ _ (omega (arith, block.inside, f.joined)) c.requires.1 c.requires.2 c.lowest-low.ensures in
    omega (arith, mul-le-mul {n₁ = block.start + c.lowest-low.result.at} {m₁ = 2 * c.args.q} {n₂ = 1024} {m₂ = 32} (omega (arith, low.row, f.b.few_rows)) (omega (arith, c.requires.3, f.b.whole_plane, planes_le _ f.b.few_columns)))

pub overflow_mul-x : goal.overflow_mul-x
overflow_mul-x c =
    let block = c.args.self.now in
    let f = block.factors in
    omega (arith, mul-le-mul {n₁ = c.args.x} {m₁ = 2 * c.args.q} {n₂ = 256} {m₂ = 32} (omega (arith, pow_small block.width (omega (arith, block.narrow, f.narrow)))) (omega (arith, c.requires.3, f.b.whole_plane, planes_le _ f.b.few_columns)))

pub table_step-requires : goal.table_step-requires
table_step-requires c =
    let block = c.args.self.now in
    let f = block.factors in
    let low = low_facts block.start f.b.rows block.width c.args.x _ _ (omega (arith, block.inside, f.joined)) c.requires.1 c.requires.2 c.lowest-low.ensures in
    let h : c.args.x < 2 ^ f.width = omega (arith, pow_mono block.narrow) in (
      row_ends _ _ _ low.less,
      row_fits _ _ c.args.x _ _ (c.requires.3 ∙ f.b.whole_plane) c.requires.0.long h,
      row_readable _ _ _ _ _ (c.requires.3 ∙ f.b.whole_plane) c.requires.0 (λ n. omega (arith, c.slice_known-1.given n)) (omega (arith, low.less)),
      row_readable _ _ _ _ _ (c.requires.3 ∙ f.b.whole_plane) f.b.legal f.b.fit low.row,
    )

pub returns : goal.returns
returns c =
    let block = c.args.self.now in
    let f = block.factors in
    let low = low_facts block.start f.b.rows block.width c.args.x _ _ (omega (arith, block.inside, f.joined)) c.requires.1 c.requires.2 c.lowest-low.ensures in
    let h : c.args.x < 2 ^ f.width = omega (arith, pow_mono block.narrow) in
    λ p K fits. ran_table_step f.width f.a.rows f.b.columns c.args.q (c.requires.3 ∙ f.b.whole_plane) c.args.table.now p c.requires.0 (λ n. omega (arith, c.slice_known-1.given n)) K fits f.b.rows f.b.words.now _ block.start c.args.x _ _ f.b.legal c.requires.1 h low.without low.less (ap (λ (z : ℕ). block.start + z) low.place) low.row c.table_step.ensures
