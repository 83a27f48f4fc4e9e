use mathlib.Core.Path.{◌≡◌, subst}
use Prim.Native.Nat.{ℕ, ◌+◌}
use native.Mathlib.Omega.{arith}
use Rattle.steps.specs.StepList.{each, blocks, block_at, steps}
use Rattle.steps.proofs.Loops.{each_end}
use Rattle.walk.specs.Factors.{RanFor, matrix_of}
use mathlib.Core.List.{List}
use Rattle.steps.specs.Step.{Step}
use Rattle.walk.proofs.FactorLaws.{ran_listed}
use Rattle.walk.proofs.PieceLaws.{each_last, blocks_fit}
use Rattle.walk.proofs.RanLaws.{ran_none, ran_more, ran_table, ran_product}
use Rattle.walk.proofs.factors.Factors.blocks_all.Goals as goal

pub blocks-c-end-requires : goal.blocks-c-end-requires
blocks-c-end-requires c =
    let f = c.args.self.now in
    (f.a.few_columns, f.some, f.narrow)

pub loop-c-init : goal.loop-c-init
loop-c-init c =
    let f = c.args.self.now in
    record {
      ran = rw (each_end (block_at f.a.rows f.a.columns f.width (matrix_of f.a)) 0) (ran_none f.width f.a.rows f.b.columns (matrix_of f.b) _ _ c.requires.table (λ n. omega (arith, c.type_inv.table n)) c.requires.product (λ n. omega (arith, c.type_inv.product n)));
      sized = c.requires;
    }

pub block-requires : goal.block-requires
block-requires c = omega (arith, c.blocks-c-end.ensures)

pub block_all-requires : goal.block_all-requires
block_all-requires c = rw c.block.ensures.0 c.loop-c.invariant.sized

pub loop-c-preserved : goal.loop-c-preserved
loop-c-preserved c =
    let f = c.args.self.now in
    let at = c.loop-c in
    let each_block : ℕ → List Step = block_at f.a.rows f.a.columns f.width (matrix_of f.a) in
    let this = ran_listed f c.block.result at.c c.block.ensures (λ ps. ps) _ _ _ _ c.block_all.ensures in
    let next : RanFor f (matrix_of f.b) (each 0 (at.c + 1) each_block) c.args.table.now c.args.product.now c.block_all.new.table c.block_all.new.product =
    rw (each_last each_block 0 at.c (omega arith)) (ran_more f.width f.a.rows f.b.columns (matrix_of f.b) f.a.columns (each 0 at.c each_block) (each_block at.c) _ _ _ _ _ _ (blocks_fit f.a.rows f.a.columns f.width at.c (matrix_of f.a) f.some (omega (arith, c.blocks-c-end.ensures))) at.invariant.ran this) in
    record {
      ran = next;
      sized = record { table = ran_table f.width f.a.rows f.b.columns (matrix_of f.b) _ _ _ _ _ next; product = ran_product f.width f.a.rows f.b.columns (matrix_of f.b) _ _ _ _ _ next };
    }

pub returns : goal.returns
unfolding steps
returns c =
    let f = c.args.self.now in
    let e : c.loop-c.c ≡ blocks f.a.columns f.width = omega (arith, c.blocks-c-end.ensures) in
    subst (λ (d : ℕ). RanFor f (matrix_of f.b) (each 0 d (block_at f.a.rows f.a.columns f.width (matrix_of f.a))) c.args.table.now c.args.product.now c.loop-c.table c.loop-c.product) e c.loop-c.invariant.ran
