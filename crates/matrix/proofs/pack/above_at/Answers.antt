use native.Mathlib.Nat.{mod-lt}
use native.Mathlib.Omega.{arith}
use Rattle.requests.proofs.SizeLaws.{over_rows, over_columns}
use Rattle.matrix.specs.Pack.{above_at}
use Rattle.matrix.proofs.PackLaws.{unlike_long, some_column, row_below}
use Rattle.matrix.proofs.pack.above_at.Goals as goal

pub nonzero_div-result : goal.nonzero_div-result
nonzero_div-result c = omega (arith, some_column c.args.cells.now c.requires.2 _ _ (unlike_long c.args.s _ c.requires.1))

pub overflow_cast-result : goal.overflow_cast-result
overflow_cast-result c =
    omega (arith, row_below c.args.cells.now c.requires.2 _ _ (unlike_long c.args.s _ c.requires.1) c.first_above-k.result c.first_above-k.ensures, over_rows _ c.requires.0)

pub nonzero_rem-result : goal.nonzero_rem-result
nonzero_rem-result c = omega (arith, some_column c.args.cells.now c.requires.2 _ _ (unlike_long c.args.s _ c.requires.1))

pub overflow_cast-result-2 : goal.overflow_cast-result-2
overflow_cast-result-2 c = omega (arith, mod-lt c.first_above-k.result (some_column c.args.cells.now c.requires.2 _ _ (unlike_long c.args.s _ c.requires.1)), over_columns _ c.requires.0)

pub returns : goal.returns
unfolding above_at
returns c = rw c.first_above-k.ensures
