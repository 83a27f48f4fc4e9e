use mathlib.Core.Path.{refl}
use native.Mathlib.Nat.{mul-le-mul}
use native.Mathlib.Omega.{arith}
use Rattle.blocks64.proofs.block.place.Goals as goal

pub overflow_mul-result : goal.overflow_mul-result
overflow_mul-result c = omega (arith, mul-le-mul {n₁ = c.args.t} {m₁ = c.args.w} {n₂ = 64} {m₂ = 32} (omega arith) (omega arith))

pub overflow_add-result : goal.overflow_add-result
overflow_add-result c = omega (arith, mul-le-mul {n₁ = c.args.t} {m₁ = c.args.w} {n₂ = 64} {m₂ = 32} (omega arith) (omega arith))

pub returns : goal.returns
returns c = refl
