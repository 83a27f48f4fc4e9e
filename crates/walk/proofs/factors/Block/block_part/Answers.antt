use mathlib.Core.Path.{◌≡◌, refl, ap}
use Prim.Native.Nat.{ℕ, ◌+◌, ◌*◌, ◌-◌, ◌^◌, ◌%◌}
use lib.Pow.{pow_pos}
use Rattle.walk.specs.declared.Left.{Left}
use Rattle.walk.specs.Factors.{matrix_of}
use Rattle.walk.proofs.CountLaws.{shift_one, pow_small}
use Rattle.walk.proofs.PieceLaws.{block_spent, block_ran}
use Rattle.walk.proofs.RanLaws.{ran_table}
use native.Mathlib.Omega.{arith}
use Rattle.walk.proofs.factors.Block.block_part.Goals as goal

pub overflow_shl-top : goal.overflow_shl-top
overflow_shl-top c =
    let block = c.args.self.now in
    let f = block.factors in
    omega (arith, block.narrow, f.narrow)

pub overflow_sub-top : goal.overflow_sub-top
overflow_sub-top c =
    let block = c.args.self.now in
    let f = block.factors in
    omega (arith, (shift_one block.width (omega (arith, block.narrow, f.narrow))), pow_pos block.width)

pub overflow_sub-top-2 : goal.overflow_sub-top-2
overflow_sub-top-2 c = omega (arith, c.min-skipped.ensures)

pub overflow_add-from : goal.overflow_add-from
overflow_add-from c =
    let block = c.args.self.now in
    let f = block.factors in
    omega (arith, c.min-skipped.ensures, (shift_one block.width (omega (arith, block.narrow, f.narrow))), pow_small block.width (omega (arith, block.narrow, f.narrow)))

pub overflow_add-from-2 : goal.overflow_add-from-2
overflow_add-from-2 c =
    let block = c.args.self.now in
    let f = block.factors in
    omega (arith, c.min-skipped.ensures, c.min-made.ensures, (shift_one block.width (omega (arith, block.narrow, f.narrow))), pow_small block.width (omega (arith, block.narrow, f.narrow)), pow_pos block.width)

pub table_part-requires : goal.table_part-requires
table_part-requires c =
    let block = c.args.self.now in
    let f = block.factors in
    (c.requires.table, omega arith, omega arith, omega (arith, c.min-skipped.ensures, c.min-made.ensures, (shift_one block.width (omega (arith, block.narrow, f.narrow))), pow_small block.width (omega (arith, block.narrow, f.narrow)), pow_pos block.width))

pub overflow_sub-rest : goal.overflow_sub-rest
overflow_sub-rest c = omega (arith, c.min-skipped.ensures)

pub overflow_sub-rest-2 : goal.overflow_sub-rest-2
overflow_sub-rest-2 c = omega (arith, c.min-made.ensures)

pub rows_part-requires : goal.rows_part-requires
rows_part-requires c =
    let block = c.args.self.now in
    let f = block.factors in
    record {
      table = ran_table f.width f.a.rows f.b.columns (matrix_of f.b) _ _ _ _ _ (c.table_part.ensures c.args.product.now c.requires.product (λ n. omega (arith, c.slice_known-2-1.given n)));
      product = c.requires.product;
    }

pub returns : goal.returns
returns c =
    let block = c.args.self.now in
    let f = block.factors in
    let skipped = c.min-skipped.result in
    let made = c.min-made.result in
    let rest : Left = record { skip = c.args.left.skip - skipped; budget = c.args.left.budget - made } in
    let top : 1 * 2 ^ block.width % 18446744073709551616 - 1 ≡ 2 ^ block.width - 1 = ap (λ (x : ℕ). x - 1) (shift_one block.width (omega (arith, block.narrow, f.narrow))) in
    record {
      spent = block_spent f.width f.a.rows f.b.columns f.a.columns (matrix_of f.a) (matrix_of f.b) block.start block.width c.args.left rest c.rows_part.result _ skipped made (skipped + 1) (skipped + 1 + made) block.inside block.narrow top c.min-skipped.ensures c.min-made.ensures refl refl refl refl c.rows_part.ensures.spent;
      ran = block_ran f.width f.a.rows f.b.columns f.a.columns (matrix_of f.a) (matrix_of f.b) block.start block.width c.args.left rest c.rows_part.result _ skipped made (skipped + 1) (skipped + 1 + made) block.inside block.narrow top c.min-skipped.ensures c.min-made.ensures refl refl refl refl _ _ _ _ (c.table_part.ensures c.args.product.now c.requires.product (λ n. omega (arith, c.slice_known-2-1.given n))) (c.rows_part.ensures.ran (matrix_of f.b));
    }
