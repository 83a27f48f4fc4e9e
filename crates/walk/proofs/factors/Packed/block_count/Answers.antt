use mathlib.Core.Path.{ap, ◌∙◌}
use Prim.Native.Nat.{ℕ, ◌-◌}
use lib.Pow.{pow_pos}
use Rattle.walk.specs.Factors.{matrix_of}
use Rattle.walk.proofs.CountLaws.{shift_one, count_none, count_more, count_all, count_small}
use native.Mathlib.Omega.{arith}
use Rattle.walk.proofs.factors.Packed.block_count.Goals as goal

pub overflow_sub-n : goal.overflow_sub-n
overflow_sub-n c = omega (arith, shift_one _ c.requires.1, pow_pos c.args.w)

pub loop-i-init : goal.loop-i-init
loop-i-init c = ap (λ (x : ℕ). x - 1) (shift_one _ c.requires.1) ∙ count_none c.args.self.now.rows (matrix_of c.args.self.now) c.args.s c.args.w

pub bits-bits-requires : goal.bits-bits-requires
bits-bits-requires c = (omega arith, c.requires.0, c.requires.1, c.requires.2, λ e. omega arith)

pub overflow_add-n : goal.overflow_add-n
overflow_add-n c = omega (arith, c.min.ensures, c.min-in-loop-i.ensures)

pub overflow_add-n-in-loop-i : goal.overflow_add-n-in-loop-i
overflow_add-n-in-loop-i c = omega (arith, c.min.ensures, c.min-in-loop-i.ensures, c.loop-i.invariant, count_small (matrix_of c.args.self.now) c.args.s c.args.w c.loop-i.i c.requires.1)

pub loop-i-preserved : goal.loop-i-preserved
loop-i-preserved c = count_more (matrix_of c.args.self.now) c.args.s c.args.w c.loop-i.i _ _ _ c.loop-i.invariant (omega (arith, c.min.ensures, c.bits-bits.ensures.0)) (omega (arith, c.min-in-loop-i.ensures, c.bits-bits.ensures.1))

pub returns : goal.returns
returns c = count_all (matrix_of c.args.self.now) c.args.s c.args.w c.loop-i.i c.args.self.now.rows _ (omega arith) c.loop-i.invariant
