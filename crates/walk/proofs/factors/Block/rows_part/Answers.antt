use mathlib.Core.Path.{◌≡◌, subst}
use Prim.Native.Nat.{ℕ, ◌+◌}
use lib.ListN.{length}
use Rattle.cells.specs.Digit.{Matrix}
use Rattle.steps.specs.StepList.{each}
use Rattle.steps.specs.Turn.{due}
use Rattle.steps.proofs.Fits.{fit_wider, row_fits}
use Rattle.steps.proofs.Loops.{each_end}
use Rattle.walk.specs.Spent.{Spent}
use Rattle.walk.specs.Factors.{RanFor, matrix_of, row_list}
use Rattle.walk.proofs.DueLaws.{due_nil, spent_none, spent_append}
use Rattle.walk.proofs.PieceLaws.{each_last, joined}
use Rattle.walk.proofs.RanLaws.{ran_none, ran_product}
use native.Mathlib.Omega.{arith}
use Rattle.walk.proofs.factors.Block.rows_part.Goals as goal

pub loop-i-init : goal.loop-i-init
loop-i-init c =
    let block = c.args.self.now in
    let f = block.factors in
    record {
      spent = rw (each_end (row_list block) 0) (spent_none c.args.left);
      ran = λ B. rw (each_end (row_list block) 0, due_nil) (ran_none f.width f.a.rows f.b.columns B _ _ c.requires.table (λ n. omega (arith, c.type_inv.table n)) c.requires.product (λ n. omega (arith, c.type_inv.product n)));
      sized = c.requires;
    }

pub row_part-rest-requires : goal.row_part-rest-requires
row_part-rest-requires c = (c.loop-i.invariant.sized, omega arith)

pub loop-i-preserved : goal.loop-i-preserved
loop-i-preserved c =
    let block = c.args.self.now in
    let f = block.factors in
    let done = each 0 c.loop-i.i (row_list block) in
    let this = row_list block c.loop-i.i in
    let next : (B : Matrix) → RanFor f B (due c.args.left.skip c.args.left.budget (each 0 (c.loop-i.i + 1) (row_list block))) c.args.table.now c.args.product.now c.args.table.now c.row_part-rest.new.product =
    λ B. rw (each_last (row_list block) 0 c.loop-i.i (omega arith)) (joined f.width f.a.rows f.b.columns f.a.columns B done this c.args.left c.loop-i.rest _ _ _ _ _ _ (fit_wider f.a.rows f.a.columns block.width f.width block.narrow (row_list block c.loop-i.i) (row_fits f.a.rows f.a.columns (matrix_of f.a) block.start block.width c.loop-i.i (omega arith))) c.loop-i.invariant.spent (c.loop-i.invariant.ran B) (c.row_part-rest.ensures.ran B)) in
    record {
      spent = rw (each_last (row_list block) 0 c.loop-i.i (omega arith)) (spent_append done this c.args.left c.loop-i.rest _ c.loop-i.invariant.spent c.row_part-rest.ensures.spent);
      ran = next;
      sized = record { table = c.requires.table; product = ran_product f.width f.a.rows f.b.columns (λ i j. 0) _ _ _ _ _ (next (λ i j. 0)) };
    }

pub returns : goal.returns
returns c =
    let block = c.args.self.now in
    let f = block.factors in
    let e : c.loop-i.i ≡ f.a.rows = omega arith in
    record {
      spent = subst (λ (i : ℕ). Spent c.args.left (length (each 0 i (row_list block))) c.loop-i.rest) e c.loop-i.invariant.spent;
      ran = λ B. subst (λ (i : ℕ). RanFor f B (due c.args.left.skip c.args.left.budget (each 0 i (row_list block))) c.args.table.now c.args.product.now c.args.table.now c.loop-i.product) e (c.loop-i.invariant.ran B);
    }
