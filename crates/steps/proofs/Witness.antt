-- Theorem: the list of the witness is as long as its quote, at all sizes and widths, so that no lower quote is safe. Assumes nothing.
use Prim.Native.Nat.{ℕ, zero, suc, ◌+◌, ◌-◌, ◌*◌, ◌^◌, ◌≤◌, min}
use mathlib.Core.Path.{◌≡◌, refl, ap, ◌∙◌}
use native.Mathlib.Omega.{arith}
use Rattle.cells.proofs.SumLaws.{sum_ext, sum_same}
use Rattle.steps.specs.Matrix.{Digits}
use Rattle.steps.specs.StepList.{blocks, block_width}
use Rattle.steps.specs.Count.{block_quote, quote, total, row_count, block_count}
use Rattle.steps.specs.Witness.{witness, Safe}
use Rattle.steps.proofs.WitnessCells.{levels}
use Rattle.steps.proofs.BlockBits.{bits_none, bits_first}
use Rattle.steps.proofs.Counts.{total_counts, total_le}

pub witness_digits : (m l : ℕ) → Digits m l witness
unfolding witness
witness_digits m l i j _ _ = omega arith

-- of two columns side by side one holds a 1 and the other a 2, so that a row takes as many steps as it is quoted
row_met : (s w i : ℕ) → row_count witness s w i ≡ min 2 w
unfolding row_count
row_met s zero i = rw (bits_none 1 (witness i) s, bits_none 2 (witness i) s) refl
row_met s (suc zero) i =
    omega (arith, bits_first 1 (witness i) 0 s, bits_first 2 (witness i) 0 s, bits_none 1 (witness i) (suc s), bits_none 2 (witness i) (suc s), levels i s)
row_met s (suc (suc w)) i =
    omega (arith, bits_first 1 (witness i) (suc w) s, bits_first 1 (witness i) w (suc s), bits_first 2 (witness i) (suc w) s, bits_first 2 (witness i) w (suc s), levels i s, levels i (suc s))

block_met : (m s w : ℕ) → block_count m witness s w ≡ block_quote m w
unfolding block_count
block_met m s w = ap (λ (n : ℕ). (2 ^ w - 1) + n) (sum_ext (row_count witness s w) (λ _. min 2 w) m 0 (λ i _ _. row_met s w i) ∙ sum_same (min 2 w) m 0)

pub witness_meets : (m l k : ℕ) → total m l k witness ≡ quote m l k
unfolding quote
witness_meets m l k = total_counts m l k witness ∙ sum_ext _ _ (blocks l k) 0 (λ b _ _. block_met m (b * k) (block_width l k b))

-- ---- no lower quote is safe

pub quote_safe : (m l k : ℕ) → Safe m l k (quote m l k)
quote_safe m l k A _ = total_le m l k A

pub no_lower : (m l k q : ℕ) → Safe m l k q → quote m l k ≤ q
no_lower m l k q safe = omega (arith, safe witness (witness_digits m l), witness_meets m l k)

-- whatever rule makes it from m, l and the width
pub no_lower_rule : (rule : ℕ → ℕ → ℕ → ℕ) → ((m l k : ℕ) → Safe m l k (rule m l k)) → (m l k : ℕ) → quote m l k ≤ rule m l k
no_lower_rule rule safe m l k = no_lower m l k (rule m l k) (safe m l k)
