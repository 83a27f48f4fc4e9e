-- Theorem: the exact total is the sum of the counts, and is within the quote. Assumes nothing.
use Prim.Native.Nat.{ℕ, zero, suc, ◌+◌, ◌-◌, ◌*◌, ◌^◌, ◌≤◌, ◌<◌, min}
use mathlib.Core.Path.{◌≡◌, refl, ◌∙◌}
use mathlib.Core.List.{[], ◌∷◌}
use native.Mathlib.Omega.{arith}
use native.Mathlib.Nat.{sub-zero}
use lib.Dec.{lit≤}
use lib.ListN.{length, length-append}
use Rattle.cells.specs.Digit.{Matrix}
use Rattle.steps.specs.Step.{Step, table_step, plus, minus}
use Rattle.cells.specs.Counts.{sum, is}
use Rattle.steps.specs.StepList.{unless0, each, table_steps, row_steps, block_steps, blocks, block_width, block_at, steps}
use Rattle.steps.specs.Count.{block_quote, quote, total, row_count, block_count, count_at}
use Rattle.cells.proofs.SumLaws.{sum_le, sum_same, sum_ext}
use Rattle.steps.proofs.BlockBits.{bits_none, bits_first}
use Rattle.steps.proofs.Loops.{length_each, no_blocks}

pub length_unless0 : (step : ℕ → Step) (x : ℕ) → length (unless0 step x) ≡ min 1 x
unfolding unless0
length_unless0 step zero = refl
length_unless0 step (suc x) = omega arith

pub length_row : (A : Matrix) (s w i : ℕ) → length (row_steps A s w i) ≡ row_count A s w i
unfolding row_steps row_count
length_row A s w i = rw (length-append, length_unless0 (plus i), length_unless0 (minus i))

pub length_rows : (A : Matrix) (s w i e : ℕ) → length (each i e (row_steps A s w)) ≡ sum i (e - i) (row_count A s w)
length_rows A s w i e = length_each (row_steps A s w) i e ∙ sum_ext _ _ (e - i) i (λ i _ _. length_row A s w i)

pub length_table : (s x w : ℕ) → length (each x (2 ^ w) (λ x. table_step s x ∷ [])) ≡ 2 ^ w - x
length_table s x w = length_each (λ x. table_step s x ∷ []) x (2 ^ w) ∙ omega (arith, sum_same 1 (2 ^ w - x) x)

pub length_block : (m : ℕ) (A : Matrix) (s w : ℕ) → length (block_steps m A s w) ≡ block_count m A s w
unfolding block_steps table_steps block_count
length_block m A s w = rw (length-append, length_table s 1 w, length_rows A s w 0 m, sub-zero)

pub total_counts : (m l k : ℕ) (A : Matrix) → total m l k A ≡ sum 0 (blocks l k) (count_at m l k A)
unfolding total steps
total_counts m l k A =
    length_each (block_at m l k A) 0 (blocks l k)
    ∙ rw sub-zero (sum_ext _ _ (blocks l k) 0 (λ b _ _. length_block m A (b * k) (block_width l k b)))

-- with no column there is no step
pub no_columns : (m k : ℕ) (A : Matrix) → 0 < k → total m 0 k A ≡ 0
unfolding sum
no_columns m k A pos = rw (total_counts, no_blocks k pos)

-- ---- the quote

not_both : (a : ℕ) → is a 1 + is a 2 ≤ 1
unfolding is
not_both zero = lit≤ tt
not_both (suc zero) = lit≤ tt
not_both (suc (suc zero)) = lit≤ tt
not_both (suc (suc (suc a))) = lit≤ tt

-- a row of a block of w columns takes at most 2 steps, and at most w
pub row_le : (A : Matrix) (s w i : ℕ) → row_count A s w i ≤ min 2 w
unfolding row_count
row_le A s zero i = rw (bits_none 1 (A i) s, bits_none 2 (A i) s) (lit≤ tt)
row_le A s (suc zero) i = omega (arith, bits_first 1 (A i) 0 s, bits_first 2 (A i) 0 s, bits_none 1 (A i) (suc s), bits_none 2 (A i) (suc s), not_both (A i s))
row_le A s (suc (suc w)) i = omega arith

pub block_le : (m : ℕ) (A : Matrix) (s w : ℕ) → block_count m A s w ≤ block_quote m w
unfolding block_count
block_le m A s w = omega (arith, sum_le (row_count A s w) (λ _. min 2 w) (row_le A s w) m 0, sum_same (min 2 w) m 0)

pub total_le : (m l k : ℕ) (A : Matrix) → total m l k A ≤ quote m l k
unfolding quote
total_le m l k A = rw total_counts (sum_le _ _ (λ b. block_le m A (b * k) (block_width l k b)) (blocks l k) 0)
