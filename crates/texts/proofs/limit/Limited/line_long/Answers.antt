use mathlib.Core.Path.{ap}
use Prim.Native.Nat.{ℕ, ◌+◌, ◌*◌}
use Rattle.frames.specs.RowLine.{line_long}
use native.Mathlib.Omega.{arith}
use Rattle.texts.proofs.limit.Limited.line_long.Goals as goal

pub returns : goal.returns
unfolding line_long
returns c = (ap (λ (w : ℕ). w * 16 + 1) c.wide.ensures.0, omega (arith, c.wide.ensures.1))
