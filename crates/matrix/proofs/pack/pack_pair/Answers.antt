use mathlib.Core.Path.{refl}
use Prim.Native.Nat.{◌-◌}
use lib.ListN.{length, get_or}
use Rattle.cells.specs.Digit.{unit_of, sign_of}
use Rattle.cells.proofs.EncodeLaws.{unit_lt, sign_lt}
use Rattle.matrix.proofs.GatherLaws.{push_none, push_more, push_fits}
use native.Mathlib.Omega.{arith}
use Rattle.matrix.proofs.pack.pack_pair.Goals as goal

pub loop-t-init : goal.loop-t-init
loop-t-init c = (push_none (λ k. unit_of (get_or c.args.digits.now k 0)) (length c.args.digits.now), push_none (λ k. sign_of (get_or c.args.digits.now k 0)) (length c.args.digits.now))

pub overflow_mul-unit : goal.overflow_mul-unit
overflow_mul-unit c = omega (arith, push_fits (λ k. unit_of (get_or c.args.digits.now k 0)) (length c.args.digits.now) c.loop-t.t c.loop-t.unit (λ k. unit_lt _) (omega arith) (omega arith) c.loop-t.invariant.0)

pub overflow_add-unit-in-loop-t : goal.overflow_add-unit-in-loop-t
overflow_add-unit-in-loop-t c = omega (arith, push_fits (λ k. unit_of (get_or c.args.digits.now k 0)) (length c.args.digits.now) c.loop-t.t c.loop-t.unit (λ k. unit_lt _) (omega arith) (omega arith) c.loop-t.invariant.0, c.requires.1 (c.loop-t.t - 1))

pub overflow_mul-sign : goal.overflow_mul-sign
overflow_mul-sign c = omega (arith, push_fits (λ k. sign_of (get_or c.args.digits.now k 0)) (length c.args.digits.now) c.loop-t.t c.loop-t.sign (λ k. sign_lt _) (omega arith) (omega arith) c.loop-t.invariant.1)

pub overflow_add-sign : goal.overflow_add-sign
overflow_add-sign c = omega (arith, push_fits (λ k. sign_of (get_or c.args.digits.now k 0)) (length c.args.digits.now) c.loop-t.t c.loop-t.sign (λ k. sign_lt _) (omega arith) (omega arith) c.loop-t.invariant.1, c.requires.1 (c.loop-t.t - 1))

pub loop-t-preserved : goal.loop-t-preserved
unfolding unit_of sign_of
loop-t-preserved c = (
  push_more (λ k. unit_of (get_or c.args.digits.now k 0)) (length c.args.digits.now) c.loop-t.t (c.loop-t.t - 1) c.loop-t.unit _ refl (omega arith) (omega arith) c.loop-t.invariant.0 (omega (arith, c.requires.1 (c.loop-t.t - 1))),
  push_more (λ k. sign_of (get_or c.args.digits.now k 0)) (length c.args.digits.now) c.loop-t.t (c.loop-t.t - 1) c.loop-t.sign _ refl (omega arith) (omega arith) c.loop-t.invariant.1 (omega (arith, c.requires.1 (c.loop-t.t - 1))),
)
