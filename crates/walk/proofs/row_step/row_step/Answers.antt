use mathlib.Core.Path.{refl, ◌∙◌}
use Prim.Native.Nat.{◌*◌}
use native.Mathlib.Nat.{mul-le-mul}
use native.Mathlib.Omega.{arith}
use Rattle.buffers.proofs.SizeLaws.{planes_le, words_le, row_fits}
use Rattle.rows.proofs.MatrixLaws.{row_readable}
use Rattle.steps.specs.Step.{row_step}
use Rattle.walk.proofs.CountLaws.{pow_small}
use Rattle.walk.proofs.PieceLaws.{step_none, row_step_made}
use Rattle.walk.proofs.row_step.row_step.Goals as goal

pub returns-then-x-eq0 : goal.returns-then-x-eq0
returns-then-x-eq0 g c =
    let f = c.args.factors.now in
    λ M. step_none f.width f.a.rows f.b.columns M (row_step c.args.i g.row.D) c.args.x _ _ _ c.if-x-eq0.true refl c.requires.0.table (λ n. omega (arith, c.type_inv.table n)) c.requires.0.product (λ n. omega (arith, c.type_inv.product n))

pub overflow_mul-wide : goal.overflow_mul-wide
overflow_mul-wide g c =
    let f = c.args.factors.now in
    omega (arith, c.requires.5, f.b.whole_plane, planes_le _ f.b.few_columns)

pub overflow_mul-at : goal.overflow_mul-at
overflow_mul-at g c =
    let f = c.args.factors.now in
    omega (arith, row_fits _ _ c.args.i _ _ (c.requires.5 ∙ f.b.whole_plane) c.requires.0.product.long c.requires.1, words_le _ _ f.a.few_rows f.b.few_columns)

pub overflow_mul-from : goal.overflow_mul-from
overflow_mul-from g c =
    let f = c.args.factors.now in
    omega (arith, mul-le-mul {n₁ = c.args.x} {m₁ = 2 * c.args.q} {n₂ = 256} {m₂ = 32} (omega (arith, c.requires.2, pow_small f.width f.narrow)) (omega (arith, c.requires.5, f.b.whole_plane, planes_le _ f.b.few_columns)))

pub accumulate-requires : goal.accumulate-requires
accumulate-requires g c =
    let f = c.args.factors.now in (
      row_readable _ _ c.args.i _ _ (c.requires.5 ∙ f.b.whole_plane) c.requires.0.product (λ n. omega (arith, c.slice_known-1.given n)) c.requires.1,
      row_readable _ _ c.args.x _ _ (c.requires.5 ∙ f.b.whole_plane) c.requires.0.table (λ n. omega (arith, c.type_inv.table n)) c.requires.2,
      omega arith,
    )

pub returns : goal.returns
returns g c =
    let f = c.args.factors.now in
    row_step_made f.width f.a.rows f.b.columns c.args.q (c.requires.5 ∙ f.b.whole_plane) c.requires.0.table (λ n. omega (arith, c.type_inv.table n)) c.requires.0.product (λ n. omega (arith, c.slice_known-1.given n))
    c.args.i g.row.D c.args.x c.requires.1 (omega arith) c.requires.2 c.accumulate.ensures
