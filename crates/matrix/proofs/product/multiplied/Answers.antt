use mathlib.Core.Path.{◌∙◌}
use Prim.Native.Nat.{◌^◌}
use Rattle.buffers.proofs.BufferLaws.{zeros_encode}
use Rattle.steps.specs.StepList.{steps}
use Rattle.steps.proofs.Fits.{steps_fit}
use Rattle.walk.specs.Factors.{matrix_of}
use Rattle.matrix.proofs.JobLaws.{zero_legal, opened_table, opened_product}
use Rattle.matrix.proofs.product.multiplied.Goals as goal

pub blocks_all-requires : goal.blocks_all-requires
blocks_all-requires c = record {
  table = zero_legal _ _ _ (c.zero.ensures.0 ∙ c.requires.0) c.zero.ensures.1;
  product = zero_legal _ _ _ (c.zero-2.ensures.0 ∙ c.requires.1) c.zero-2.ensures.1;
}

pub returns : goal.returns
returns c =
    let f = c.args.factors.now in
    let fit = steps_fit f.a.rows f.a.columns f.width (matrix_of f.a) f.some in
    let table = zeros_encode (2 ^ f.width) f.b.columns c.zero.new.out (c.zero.ensures.0 ∙ c.requires.0) c.zero.ensures.1 in
    let product = zeros_encode f.a.rows f.b.columns c.zero-2.new.out (c.zero-2.ensures.0 ∙ c.requires.1) c.zero-2.ensures.1 in
    let made = steps f.a.rows f.a.columns f.width (matrix_of f.a) in (
      opened_table f.width f.a.rows f.a.columns f.b.columns (matrix_of f.b) made _ _ _ _ fit table product c.blocks_all.ensures,
      opened_product f.width f.a.rows f.a.columns f.b.columns (matrix_of f.b) made _ _ _ _ fit table product c.blocks_all.ensures,
    )
