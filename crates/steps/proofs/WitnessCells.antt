-- The law of the witness's cells. Assumes nothing.
use Prim.Native.Nat.{ℕ, ◌+◌, ◌-◌, ◌%◌}
use mathlib.Core.Path.{◌≡◌, refl}
use native.Mathlib.Omega.{arith}
use Rattle.cells.specs.Counts.{is}
use Rattle.cells.proofs.BitLaws.{bits}
use Rattle.steps.specs.Witness.{witness}

pub levels : (i j : ℕ) → (is (witness i j) 1 ≡ 1 - j % 2) × (is (witness i j) 2 ≡ j % 2)
unfolding witness is
levels i j = bits (λ b. (is (1 + b) 1 ≡ 1 - b) × (is (1 + b) 2 ≡ b)) (refl, refl) (refl, refl) (j % 2) (omega arith)
