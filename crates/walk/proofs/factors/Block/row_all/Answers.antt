use native.Mathlib.Omega.{arith}
use lib.Pow.{pow_mono}
use Rattle.cells.specs.Digit.{Matrix}
use Rattle.steps.specs.Step.{plus, minus}
use Rattle.steps.specs.StepList.{unless0, row_steps}
use Rattle.steps.proofs.BlockBits.{bits_lt}
use Rattle.steps.proofs.Fits.{row_step_fits}
use Rattle.walk.specs.Factors.{matrix_of}
use Rattle.walk.proofs.RanLaws.{ran_more, ran_product}
use Rattle.walk.proofs.factors.Block.row_all.Goals as goal

pub bits-bits-requires : goal.bits-bits-requires
bits-bits-requires g c =
    let block = c.args.self.now in
    (c.requires.1, block.some, omega (arith, block.narrow, block.factors.narrow), block.inside, c.requires.2)

pub row_step-requires : goal.row_step-requires
row_step-requires g c =
    let block = c.args.self.now in
    let f = block.factors in
    let A = matrix_of f.a in
    (c.requires.0, c.requires.1, omega (arith, c.bits-bits.ensures.0, bits_lt 1 (A c.args.i) block.width block.start, pow_mono block.narrow), omega arith, omega arith, c.requires.3)

pub row_step-requires-2 : goal.row_step-requires-2
row_step-requires-2 g c =
    let block = c.args.self.now in
    let f = block.factors in
    let A = matrix_of f.a in
    let zero : Matrix = λ i j. 0 in
    (record { table = c.requires.0.table; product = ran_product f.width f.a.rows f.b.columns zero _ _ _ _ _ (c.row_step.ensures zero) }, c.requires.1, omega (arith, c.bits-bits.ensures.1, bits_lt 2 (A c.args.i) block.width block.start, pow_mono block.narrow), omega arith, omega arith, c.requires.3)

pub returns : goal.returns
unfolding row_steps
returns g c =
    let block = c.args.self.now in
    let f = block.factors in
    let A = matrix_of f.a in
    rw (← c.bits-bits.ensures.0, ← c.bits-bits.ensures.1) (λ B. ran_more f.width f.a.rows f.b.columns B f.a.columns (unless0 (plus c.args.i) c.bits-bits.result.ones) (unless0 (minus c.args.i) c.bits-bits.result.twos) _ _ _ _ _ _ (row_step_fits f.a.rows f.a.columns f.width c.args.i 2 _ c.requires.1 (omega (arith, c.bits-bits.ensures.1, bits_lt 2 (A c.args.i) block.width block.start, pow_mono block.narrow))) (c.row_step.ensures B) (c.row_step-2.ensures B))
