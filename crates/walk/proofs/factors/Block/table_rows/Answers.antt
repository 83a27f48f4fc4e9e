use mathlib.Core.Path.{◌≡◌, sym, subst}
use mathlib.Core.List.{List, [], ◌∷◌}
use Prim.Native.Nat.{ℕ, ◌+◌}
use Rattle.cells.specs.Digit.{Matrix}
use Rattle.buffers.specs.Buffer.{Legal, Words, encode}
use Rattle.buffers.proofs.BufferLaws.{encode_legal, encode_words}
use Rattle.steps.specs.Step.{Step, table_step}
use Rattle.steps.specs.StepList.{each}
use Rattle.steps.proofs.Fits.{fits_wider, table_step_fits}
use Rattle.steps.proofs.Loops.{each_end}
use Rattle.walk.specs.Factors.{RanFor, matrix_of}
use Rattle.walk.proofs.PieceLaws.{each_last}
use Rattle.walk.proofs.RanLaws.{ran_none, ran_more, ran_table}
use native.Mathlib.Omega.{arith}
use Rattle.walk.proofs.factors.Block.table_rows.Goals as goal

pub loop-x-init : goal.loop-x-init
loop-x-init c =
    let block = c.args.self.now in
    let f = block.factors in
    record {
      ran = λ p K fits. rw (each_end (λ x. table_step block.start x ∷ []) c.args.from) (ran_none f.width f.a.rows f.b.columns (matrix_of f.b) c.args.table.now p c.requires.0 (λ n. omega (arith, c.type_inv.table n)) K fits);
      legal = c.requires.0;
    }

pub step-requires : goal.step-requires
step-requires c = (c.loop-x.invariant.legal, omega arith, omega arith, c.requires.4)

pub loop-x-preserved : goal.loop-x-preserved
loop-x-preserved c =
    let block = c.args.self.now in
    let f = block.factors in
    let one : ℕ → List Step = λ x. table_step block.start x ∷ [] in
    let x = c.loop-x.x in
    let next : (p : List ℕ) → Legal f.a.rows f.b.columns p → Words p → RanFor f (matrix_of f.b) (each c.args.from (x + 1) one) c.args.table.now p c.step.new.table p =
    λ p K fits. subst (λ (ps : List Step). RanFor f (matrix_of f.b) ps c.args.table.now p c.step.new.table p) (sym (each_last one c.args.from x (omega arith))) (ran_more f.width f.a.rows f.b.columns (matrix_of f.b) f.a.columns (each c.args.from x one) (one x) c.args.table.now p c.loop-x.table p _ p (fits_wider f.a.rows f.a.columns block.width f.width block.narrow (table_step block.start x) (table_step_fits f.a.rows f.a.columns block.start block.width x block.inside (omega arith) (omega arith)), tt) (c.loop-x.invariant.ran p K fits) (c.step.ensures p K fits)) in
    let none : Matrix = λ i j. 0 in
    let p = encode f.a.rows f.b.columns none in
    record {
      ran = next;
      legal = ran_table f.width f.a.rows f.b.columns (matrix_of f.b) _ c.args.table.now p _ p (next p (encode_legal f.a.rows f.b.columns none) (encode_words f.a.rows f.b.columns none));
    }

pub returns : goal.returns
returns c =
    let block = c.args.self.now in
    let f = block.factors in
    let e : c.loop-x.x ≡ c.args.to = omega arith in
    λ p K fits. subst (λ (x : ℕ). RanFor f (matrix_of f.b) (each c.args.from x (λ x. table_step block.start x ∷ [])) c.args.table.now p c.loop-x.table p) e (c.loop-x.invariant.ran p K fits)
