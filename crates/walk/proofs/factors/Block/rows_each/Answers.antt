use mathlib.Core.Path.{◌≡◌, subst}
use Prim.Native.Nat.{ℕ, ◌+◌}
use native.Mathlib.Omega.{arith}
use Rattle.cells.specs.Digit.{Matrix}
use Rattle.steps.specs.StepList.{each}
use Rattle.steps.proofs.Fits.{fit_wider, row_fits}
use Rattle.steps.proofs.Loops.{each_end}
use Rattle.walk.specs.Factors.{RanFor, matrix_of, row_list}
use Rattle.walk.proofs.PieceLaws.{each_last}
use Rattle.walk.proofs.RanLaws.{ran_none, ran_more, ran_product}
use Rattle.walk.proofs.factors.Block.rows_each.Goals as goal

pub loop-i-init : goal.loop-i-init
loop-i-init g c =
    let block = c.args.self.now in
    let f = block.factors in
    record {
      ran = λ B. rw (each_end (row_list block) 0) (ran_none f.width f.a.rows f.b.columns B _ _ c.requires.0.table (λ n. omega (arith, c.type_inv.table n)) c.requires.0.product (λ n. omega (arith, c.type_inv.product n)));
      sized = c.requires.0;
    }

pub row_all-requires : goal.row_all-requires
row_all-requires g c = (c.loop-i.invariant.sized, omega arith, c.requires.1, c.requires.2)

pub loop-i-preserved : goal.loop-i-preserved
loop-i-preserved g c =
    let block = c.args.self.now in
    let f = block.factors in
    let next : (B : Matrix) → RanFor f B (each 0 (c.loop-i.i + 1) (row_list block)) c.args.table.now c.args.product.now c.args.table.now c.row_all.new.product =
    λ B. rw (each_last (row_list block) 0 c.loop-i.i (omega arith)) (ran_more f.width f.a.rows f.b.columns B f.a.columns (each 0 c.loop-i.i (row_list block)) (row_list block c.loop-i.i) _ _ _ _ _ _ (fit_wider f.a.rows f.a.columns block.width f.width block.narrow (row_list block c.loop-i.i) (row_fits f.a.rows f.a.columns (matrix_of f.a) block.start block.width c.loop-i.i (omega arith))) (c.loop-i.invariant.ran B) (c.row_all.ensures B)) in
    record {
      ran = next;
      sized = record { table = c.requires.0.table; product = ran_product f.width f.a.rows f.b.columns (λ i j. 0) _ _ _ _ _ (next (λ i j. 0)) };
    }

pub returns : goal.returns
returns g c =
    let block = c.args.self.now in
    let f = block.factors in
    let e : c.loop-i.i ≡ f.a.rows = omega arith in
    λ B. subst (λ (i : ℕ). RanFor f B (each 0 i (row_list block)) c.args.table.now c.args.product.now c.args.table.now c.loop-i.product) e (c.loop-i.invariant.ran B)
