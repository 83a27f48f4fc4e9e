use mathlib.Core.Path.{◌≡◌, subst, sym, ap, ◌∙◌}
use mathlib.Core.List.{List, ◌++◌, append-nil}
use Prim.Native.Nat.{ℕ, ◌+◌}
use Rattle.steps.specs.Step.{Step}
use Rattle.steps.specs.StepList.{each, blocks, block_at}
use Rattle.steps.specs.Turn.{due}
use Rattle.steps.proofs.Loops.{each_end, each_split}
use Rattle.walk.specs.Factors.{RanFor, matrix_of}
use Rattle.walk.proofs.DueLaws.{due_nil, due_nothing, due_after, spent_none, spent_append}
use lib.ListN.{length}
use Rattle.walk.specs.Spent.{Spent}
use Rattle.walk.proofs.FactorLaws.{listed, ran_listed}
use Rattle.walk.proofs.PieceLaws.{each_last, joined, blocks_fit}
use Rattle.walk.proofs.RanLaws.{ran_none, ran_table, ran_product}
use native.Mathlib.Omega.{arith}
use Rattle.walk.proofs.factors.Factors.blocks_part.Goals as goal

pub blocks-end-requires : goal.blocks-end-requires
blocks-end-requires c =
    let f = c.args.self.now in
    (f.a.few_columns, f.some, f.narrow)

pub loop-d-init : goal.loop-d-init
loop-d-init c =
    let f = c.args.self.now in
    record {
      spent = rw (each_end (block_at f.a.rows f.a.columns f.width (matrix_of f.a)) c.args.c) (spent_none c.args.left);
      ran = rw (each_end (block_at f.a.rows f.a.columns f.width (matrix_of f.a)) c.args.c, due_nil) (ran_none f.width f.a.rows f.b.columns (matrix_of f.b) _ _ c.requires.0.table (λ n. omega (arith, c.type_inv.table n)) c.requires.0.product (λ n. omega (arith, c.type_inv.product n)));
      sized = c.requires.0;
    }

pub returns-then-rest-eq0 : goal.returns-then-rest-eq0
returns-then-rest-eq0 c =
    let f = c.args.self.now in
    let left = c.args.left in
    let at = c.loop-d in
    let each_block : ℕ → List Step = block_at f.a.rows f.a.columns f.width (matrix_of f.a) in
    let done = each c.args.c at.d each_block in
    let others = each at.d (blocks f.a.columns f.width) each_block in
    subst (λ (ps : List Step). RanFor f (matrix_of f.b) ps c.args.table.now c.args.product.now at.table at.product)
    (sym (ap (due left.skip left.budget) (each_split each_block c.args.c at.d (blocks f.a.columns f.width) (omega arith) (omega (arith, c.blocks-end.ensures)))
    ∙ due_after done others left at.rest at.invariant.spent
    ∙ ap (λ (g : ℕ). due left.skip left.budget done ++ due at.rest.skip g others) c.if-rest-eq0.true
    ∙ ap (λ (ps : List Step). due left.skip left.budget done ++ ps) (due_nothing at.rest.skip others) ∙ append-nil (due left.skip left.budget done)))
    at.invariant.ran

pub block-requires : goal.block-requires
block-requires c = omega (arith, c.blocks-end.ensures)

pub block_part-rest-requires : goal.block_part-rest-requires
block_part-rest-requires c = rw c.block.ensures.0 c.loop-d.invariant.sized

pub loop-d-preserved : goal.loop-d-preserved
loop-d-preserved c =
    let f = c.args.self.now in
    let left = c.args.left in
    let at = c.loop-d in
    let each_block : ℕ → List Step = block_at f.a.rows f.a.columns f.width (matrix_of f.a) in
    let done = each c.args.c at.d each_block in
    let this = ran_listed f c.block.result at.d c.block.ensures (due at.rest.skip at.rest.budget) _ _ _ _ c.block_part-rest.ensures.ran in
    let spent = subst (λ (ps : List Step). Spent at.rest (length ps) c.block_part-rest.result) (listed f c.block.result at.d c.block.ensures) c.block_part-rest.ensures.spent in
    let next : RanFor f (matrix_of f.b) (due left.skip left.budget (each c.args.c (at.d + 1) each_block)) c.args.table.now c.args.product.now c.block_part-rest.new.table c.block_part-rest.new.product =
    rw (each_last each_block c.args.c at.d (omega arith)) (joined f.width f.a.rows f.b.columns f.a.columns (matrix_of f.b) done (each_block at.d) left at.rest _ _ _ _ _ _ (blocks_fit f.a.rows f.a.columns f.width at.d (matrix_of f.a) f.some (omega (arith, c.blocks-end.ensures))) at.invariant.spent at.invariant.ran this) in
    record {
      spent = rw (each_last each_block c.args.c at.d (omega arith)) (spent_append done (each_block at.d) left at.rest _ at.invariant.spent spent);
      ran = next;
      sized = record { table = ran_table f.width f.a.rows f.b.columns (matrix_of f.b) _ _ _ _ _ next; product = ran_product f.width f.a.rows f.b.columns (matrix_of f.b) _ _ _ _ _ next };
    }

pub returns : goal.returns
returns c =
    let f = c.args.self.now in
    let e : c.loop-d.d ≡ blocks f.a.columns f.width = omega (arith, c.blocks-end.ensures) in
    subst (λ (d : ℕ). RanFor f (matrix_of f.b) (due c.args.left.skip c.args.left.budget (each c.args.c d (block_at f.a.rows f.a.columns f.width (matrix_of f.a)))) c.args.table.now c.args.product.now c.loop-d.table c.loop-d.product) e c.loop-d.invariant.ran
