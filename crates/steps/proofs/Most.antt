-- Theorem: how large a total can be within the sizes and widths of document 01. Assumes nothing.
use Prim.Native.Nat.{ℕ, zero, suc, ◌*◌, ◌≤◌, min}
use mathlib.Core.Path.{◌≡◌}
use native.Mathlib.Omega.{arith}
use Rattle.cells.specs.Digit.{Matrix}
use Rattle.cells.specs.Counts.{sum}
use Rattle.cells.proofs.SumLaws.{sum_last, sum_none}
use Rattle.steps.specs.Matrix.{Digits}
use Rattle.steps.specs.StepList.{blocks, block_width}
use Rattle.steps.specs.Count.{block_quote, quote, total}
use Rattle.steps.specs.Witness.{witness}
use Rattle.steps.proofs.Loops.{width_le}
use Rattle.steps.proofs.Counts.{total_le}
use Rattle.steps.proofs.Witness.{witness_digits, witness_meets}

-- a block of w columns is quoted at most 2,051 steps for every two of them; a block of two columns just that
block_most : (m w : ℕ) → m ≤ 1024 → w ≤ 8 → 2 * block_quote m w ≤ 2051 * w
block_most m zero h k = omega arith
block_most m (suc zero) h k = omega arith
block_most m (suc (suc zero)) h k = omega arith
block_most m (suc (suc (suc zero))) h k = omega arith
block_most m (suc (suc (suc (suc zero)))) h k = omega arith
block_most m (suc (suc (suc (suc (suc zero))))) h k = omega arith
block_most m (suc (suc (suc (suc (suc (suc zero)))))) h k = omega arith
block_most m (suc (suc (suc (suc (suc (suc (suc zero))))))) h k = omega arith
block_most m (suc (suc (suc (suc (suc (suc (suc (suc zero)))))))) h k = omega arith
block_most m (suc (suc (suc (suc (suc (suc (suc (suc (suc w))))))))) h k = absurd (omega arith)

sum_twice : (f g : ℕ → ℕ) (c : ℕ) → ((i : ℕ) → 2 * f i ≤ c * g i) → (n s : ℕ) → 2 * sum s n f ≤ c * sum s n g
unfolding sum
sum_twice f g c h zero s = omega arith
sum_twice f g c h (suc n) s = omega (arith, h s, sum_twice f g c h n (suc s))

-- no column lies in two blocks
widths_sum : (l k n : ℕ) → sum 0 n (block_width l k) ≡ min (n * k) l
unfolding block_width
widths_sum l k zero = omega (arith, sum_none (block_width l k) 0)
widths_sum l k (suc n) = omega (arith, sum_last (block_width l k) n, widths_sum l k n)

pub quote_most : (m l k : ℕ) → m ≤ 1024 → l ≤ 1024 → k ≤ 8 → quote m l k ≤ 1050112
unfolding quote
quote_most m l k hm hl hk =
    omega (arith, sum_twice _ _ 2051 (λ b. block_most m (block_width l k b) hm (omega (arith, width_le l k b))) (blocks l k) 0, widths_sum l k (blocks l k))

pub total_most : (m l k : ℕ) (A : Matrix) → m ≤ 1024 → l ≤ 1024 → k ≤ 8 → total m l k A ≤ 1050112
total_most m l k A hm hl hk = omega (arith, total_le m l k A, quote_most m l k hm hl hk)

-- so that every total can be counted in 32 bits
pub total_fits : (m l k : ℕ) (A : Matrix) → m ≤ 1024 → l ≤ 1024 → k ≤ 8 → total m l k A ≤ 4294967295
total_fits m l k A hm hl hk = omega (arith, total_most m l k A hm hl hk)

-- it is met: by the witness
pub most_met : Digits 1024 1024 witness × (total 1024 1024 2 witness ≡ 1050112)
unfolding quote blocks block_width sum
most_met = (witness_digits 1024 1024, witness_meets 1024 1024 2)
