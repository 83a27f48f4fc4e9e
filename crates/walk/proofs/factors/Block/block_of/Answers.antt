use native.Mathlib.Omega.{arith}
use lib.Pow.{pow_pos}
use Rattle.walk.specs.Factors.{matrix_of}
use Rattle.walk.proofs.PieceLaws.{block_whole}
use Rattle.walk.proofs.RanLaws.{ran_table}
use Rattle.walk.proofs.factors.Block.block_of.Goals as goal

pub table_rows-requires : goal.table_rows-requires
table_rows-requires c =
    let block = c.args.self.now in
    let f = block.factors in
    (c.requires.0.table, omega arith, omega (arith, c.requires.2, pow_pos block.width), omega (arith, c.requires.2), c.requires.1)

pub rows_all-requires : goal.rows_all-requires
rows_all-requires c =
    let block = c.args.self.now in
    let f = block.factors in (
      record {
        table = ran_table f.width f.a.rows f.b.columns (matrix_of f.b) _ _ _ _ _ (c.table_rows.ensures c.args.product.now c.requires.0.product (λ n. omega (arith, c.slice_known-2-1.given n)));
        product = c.requires.0.product;
      },
      c.requires.1,
    )

pub returns : goal.returns
returns c =
    let block = c.args.self.now in
    let f = block.factors in
    block_whole f.width f.a.rows f.b.columns f.a.columns (matrix_of f.a) (matrix_of f.b) block.start block.width _ block.narrow c.requires.2 _ _ _ _ (c.table_rows.ensures c.args.product.now c.requires.0.product (λ n. omega (arith, c.slice_known-2-1.given n))) (c.rows_all.ensures (matrix_of f.b))
