use mathlib.Core.Path.{◌≡◌}
use Prim.Native.Nat.{◌+◌}
use native.Mathlib.Omega.{arith}
use Rattle.hexadecimal.proofs.HexLaws.{value_none, value_next, value_room}
use Rattle.hexadecimal.proofs.line.value.Goals as goal

pub loop-b-init : goal.loop-b-init
loop-b-init c = value_none _ _

pub overflow_mul-v : goal.overflow_mul-v
overflow_mul-v c =
    omega (arith, value_room c.args.digits.now 0 c.loop-b.b-index (λ k l. (let e : 0 + k ≡ k = omega arith in rw e (c.requires.1 k (omega arith)))) (omega arith), c.loop-b.invariant)

pub overflow_add-v : goal.overflow_add-v
overflow_add-v c =
    let found = rw c.unwrap.ensures at c.digit_of.ensures in
    let e : 0 + c.loop-b.b-index ≡ c.loop-b.b-index = omega arith in
    omega (arith, rw e at (value_room c.args.digits.now 0 c.loop-b.b-index (λ k l. (let e : 0 + k ≡ k = omega arith in rw e (c.requires.1 k (omega arith)))) (omega arith)), c.loop-b.invariant)

pub loop-b-preserved : goal.loop-b-preserved
loop-b-preserved c =
    let found = rw c.unwrap.ensures at c.digit_of.ensures in
    let e : 0 + c.loop-b.b-index ≡ c.loop-b.b-index = omega arith in
    value_next c.args.digits.now 0 c.loop-b.b-index _ _ c.loop-b.invariant (rw e found.0)
