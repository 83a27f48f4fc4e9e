use lib.Pow.{pow_mono}
use Rattle.cells.specs.Digit.{Matrix}
use Rattle.steps.specs.Step.{plus, minus}
use Rattle.steps.specs.StepList.{unless0, row_steps}
use Rattle.steps.proofs.BlockBits.{bits_lt}
use Rattle.steps.proofs.Fits.{row_step_fits}
use Rattle.walk.specs.Factors.{matrix_of}
use Rattle.walk.proofs.DueLaws.{spent_append}
use Rattle.walk.proofs.PieceLaws.{joined}
use Rattle.walk.proofs.RanLaws.{ran_product}
use native.Mathlib.Omega.{arith}
use Rattle.walk.proofs.factors.Block.row_part.Goals as goal

pub bits-bits-requires : goal.bits-bits-requires
bits-bits-requires c =
    let block = c.args.self.now in
    (c.requires.1, block.some, omega (arith, block.narrow, block.factors.narrow), block.inside, λ e. omega arith)

pub piece-mid-requires : goal.piece-mid-requires
piece-mid-requires c =
    let block = c.args.self.now in
    let f = block.factors in
    let A = matrix_of f.a in
    (c.requires.0, c.requires.1, omega (arith, c.bits-bits.ensures.0, bits_lt 1 (A c.args.i) block.width block.start, pow_mono block.narrow), omega arith, omega arith)

pub piece-requires : goal.piece-requires
piece-requires c =
    let block = c.args.self.now in
    let f = block.factors in
    let A = matrix_of f.a in
    let zero : Matrix = λ i j. 0 in
    (record { table = c.requires.0.table; product = ran_product f.width f.a.rows f.b.columns zero _ _ _ _ _ (c.piece-mid.ensures.ran zero) }, c.requires.1, omega (arith, c.bits-bits.ensures.1, bits_lt 2 (A c.args.i) block.width block.start, pow_mono block.narrow), omega arith, omega arith)

pub returns : goal.returns
unfolding row_steps
returns c =
    let block = c.args.self.now in
    let f = block.factors in
    let A = matrix_of f.a in
    let ones = unless0 (plus c.args.i) c.bits-bits.result.ones in
    let twos = unless0 (minus c.args.i) c.bits-bits.result.twos in
    rw (← c.bits-bits.ensures.0, ← c.bits-bits.ensures.1) record {
      spent = spent_append ones twos c.args.left _ _ c.piece-mid.ensures.spent c.piece.ensures.spent;
      ran = λ B. joined f.width f.a.rows f.b.columns f.a.columns B ones twos c.args.left _ _ _ _ _ _ _ (row_step_fits f.a.rows f.a.columns f.width c.args.i 2 _ c.requires.1 (omega (arith, c.bits-bits.ensures.1, bits_lt 2 (A c.args.i) block.width block.start, pow_mono block.narrow))) c.piece-mid.ensures.spent (c.piece-mid.ensures.ran B) (c.piece.ensures.ran B);
    }
