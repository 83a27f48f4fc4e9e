-- Theorem: no width from 1 to 8 quotes less than the default, every smaller one quotes more, and no other width is like that; the quote without a
-- loop; how large a default can be. Assumes nothing.
use mathlib.Core.Path.{◌≡◌, refl, sym, ap, subst, ◌∙◌}
use mathlib.Core.Bool.{Bool, false}
use mathlib.Core.Logic.{◌⊎◌, inl, inr}
use Prim.Native.Nat.{ℕ, zero, suc, ◌+◌, ◌-◌, ◌*◌, ◌/◌, ◌%◌, ◌≤◌, ◌<◌}
use native.Mathlib.Omega.{arith}
use native.Mathlib.Nat.{le_refl, zero-add, div-eq_of_lt, add-mul-div_right, div-add-mod', mod-lt, mul-le-mul_right, eq-or-lt_of_le}
use lib.Dec.{ltb}
use borrow.Author.Tests.{ltb-false}
use Rattle.cells.specs.Any.{any}
use Rattle.cells.specs.Counts.{sum}
use Rattle.cells.proofs.AnyLaws.{any_at}
use Rattle.cells.proofs.SumLaws.{sum_last, sum_same, sum_ext}
use Rattle.steps.specs.StepList.{blocks, block_width}
use Rattle.steps.specs.Count.{block_quote, quote}
use Rattle.steps.specs.Width.{better, cheapest, default_width, Cheapest}
use Rattle.steps.proofs.Better.{better_is}

pub cheapest_is : (f : ℕ → ℕ) (n : ℕ) → Cheapest f (suc n) (cheapest f n)
unfolding cheapest
cheapest_is f zero = record { from = omega arith; to = omega arith; lowest = λ k a b. let e : k ≡ 1 = omega arith in rw e (le_refl _); first = λ k a b. absurd (omega arith) }
cheapest_is f (suc n) = better_is f (suc n) (cheapest f n) (cheapest_is f n)

-- neither of two such widths is the smaller one
not_smaller : (f : ℕ → ℕ) (n w v : ℕ) → Cheapest f n w → Cheapest f n v → v < w → ⊥
not_smaller f n w v C D less = omega (arith, C.first v D.from less, D.lowest w C.from C.to)

pub cheapest_one : (f : ℕ → ℕ) (n w v : ℕ) → Cheapest f n w → Cheapest f n v → w ≡ v
cheapest_one f n w v C D = omega (arith, not_smaller f n w v C D, not_smaller f n v w D C)

pub default_is : (m l : ℕ) → Cheapest (quote m l) 8 (default_width m l)
unfolding default_width
default_is m l = cheapest_is (quote m l) 7

pub default_one : (m l w : ℕ) → Cheapest (quote m l) 8 w → w ≡ default_width m l
default_one m l w C = cheapest_one (quote m l) 8 w (default_width m l) C (default_is m l)

-- ---- the quote without a loop

-- q blocks of k columns, and one of the r that are left
quote_parts : (m k q r : ℕ) → r < k → quote m (q * k + r) k ≡ q * block_quote m k + block_quote m r
unfolding quote blocks
quote_parts m k q r lt = go r refl
  where
    l : ℕ
    l = q * k + r

    f : ℕ → ℕ
    f b = block_quote m (block_width l k b)

    within : (b : ℕ) → b < q → block_width l k b ≡ k
    within b h = unfold block_width in omega (arith, mul-le-mul_right k h)

    full : sum 0 q f ≡ q * block_quote m k
    full = sum_ext f (λ _. block_quote m k) q 0 (λ b _ h. rw (within b (omega arith))) ∙ sum_same _ q 0

    last : block_width l k q ≡ r
    last = unfold block_width in omega arith

    go : (d : ℕ) → r ≡ d → sum 0 ((l + (k - 1)) / k) f ≡ q * block_quote m k + block_quote m r
    go zero e =
        let e₁ : l + (k - 1) ≡ (k - 1) + q * k = omega arith in
        let e₂ : (k - 1) / k ≡ 0 = div-eq_of_lt (omega arith) in
        rw (e₁, add-mul-div_right (k - 1) q {z = k} (omega arith), e₂, zero-add, full, e) (omega arith)
    go (suc d) e =
        let e₁ : l + (k - 1) ≡ d + suc q * k = omega arith in
        let e₂ : d / k ≡ 0 = div-eq_of_lt (omega arith) in
        rw (e₁, add-mul-div_right d (suc q) {z = k} (omega arith), e₂, zero-add, sum_last f q, full, last)

pub quote_closed : (m l k : ℕ) → 0 < k → quote m l k ≡ l / k * block_quote m k + block_quote m (l % k)
quote_closed m l k pos = ap (λ (n : ℕ). quote m n k) (sym (div-add-mod' l k)) ∙ quote_parts m k (l / k) (l % k) (mod-lt l pos)

-- ---- small jobs

-- columns that are fewer than the width are one block
quote_short : (m l k : ℕ) → l < k → quote m l k ≡ block_quote m l
quote_short m l k lt = let e : l ≡ 0 * k + l = omega arith in ap (λ (n : ℕ). quote m n k) e ∙ quote_parts m k 0 l lt ∙ omega arith

-- no column, or one: all widths quote alike
pub default_short : (m l : ℕ) → l ≤ 1 → default_width m l ≡ 1
default_short m l le = go (eq-or-lt_of_le (default_is m l).from)
  where
    one : (d : ℕ) → d ≤ 1 → quote m d 1 ≡ block_quote m d
    one zero h = quote_short m 0 1 (omega arith)
    one (suc zero) h = quote_parts m 1 1 0 (omega arith) ∙ omega arith
    one (suc (suc d)) h = absurd (omega arith)

    go : (1 ≡ default_width m l) ⊎ (1 < default_width m l) → default_width m l ≡ 1
    go (inl e) = sym e
    go (inr h) = absurd (omega (arith, (default_is m l).first 1 (omega arith) h, one l le, quote_short m l (default_width m l) (omega arith)))

-- within 64 by 64 width 8 never quotes less than width 7: by a table of all sizes
closed : ℕ → ℕ → ℕ → ℕ
closed m l k = l / k * block_quote m k + block_quote m (l % k)

abbrev dearer : ℕ → ℕ → Bool
dearer m l = ltb (closed m l 8) (closed m l 7)

seven : (m l : ℕ) → m ≤ 64 → l ≤ 64 → quote m l 7 ≤ quote m l 8
unfolding any closed
seven m l hm hl =
    let row : any 65 (dearer m) ≡ false = any_at (λ m. any 65 (dearer m)) 65 refl m (omega arith) in
    rw (quote_closed m l 7 (omega arith), quote_closed m l 8 (omega arith)) (ltb-false (closed m l 8) (closed m l 7) (any_at (dearer m) 65 row l (omega arith)))

pub default_small : (m l : ℕ) → m ≤ 64 → l ≤ 64 → default_width m l ≤ 7
default_small m l hm hl = go (eq-or-lt_of_le (default_is m l).to)
  where
    go : (default_width m l ≡ 8) ⊎ (default_width m l < 8) → default_width m l ≤ 7
    go (inr h) = omega arith
    go (inl e) = absurd (omega (arith, seven m l hm hl, subst (λ (w : ℕ). quote m l w < quote m l 7) e ((default_is m l).first 7 (omega arith) (omega arith))))

-- met by these, so that a table for the default needs 128 rows within 64 by 64, and 256 within 128 by 128
pub default_met : (default_width 64 7 ≡ 7) × (default_width 128 8 ≡ 8)
unfolding default_width cheapest better quote blocks block_width sum
default_met = (refl, refl)
