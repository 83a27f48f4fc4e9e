use mathlib.Core.Path.{ap}
use Prim.Native.Nat.{ℕ, ◌*◌}
use Rattle.buffers.specs.Buffer.{planes, wide}
use native.Mathlib.Omega.{arith}
use Rattle.texts.proofs.limit.Limited.wide.Goals as goal

pub overflow_mul-result : goal.overflow_mul-result
unfolding planes
overflow_mul-result c = omega (arith, c.planes.ensures, c.args.self.narrow)

pub returns : goal.returns
unfolding wide planes
returns c = (ap (λ (q : ℕ). 2 * q) c.planes.ensures, omega (arith, c.planes.ensures, c.args.self.narrow))
