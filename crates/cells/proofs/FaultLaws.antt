-- What the word tests of a pair of words say of its places. Assumes nothing.
use Rattle.std.proofs.Common.{◌≡◌, ℕ, zero, suc, ◌+◌, ◌-◌, ◌/◌, ◌^◌, ◌<◌, ◌≤◌, min, max, Bool, true, false, ltb, not, ◌==◌, sym, refl, ap, ◌∙◌, arith, ltb-false, le-ltb, lt-ltb}
use Rattle.std.proofs.Math.Dec.{eqb-suc-zero}
use native.Mathlib.Decide.{dec_lt}
use lib.Bits.{bit_and, bit_or, bit_xor, differ, and_lt, or_lt, xor_lt}
use lib.Pow.{shr_le}
use Rattle.cells.specs.Any.{any, least}
use Rattle.cells.specs.Bit.{bit}
use Rattle.cells.specs.Pair.{digit}
use Rattle.cells.specs.Lowest.{Peels}
use Rattle.cells.proofs.AnyLaws.{any_none, any_at}
use Rattle.cells.proofs.LeastLaws.{true_false, least_of}
use Rattle.cells.proofs.BitLaws.{bit_lt, bits, bit_of_and, bit_of_or, bit_of_xor}
use Rattle.cells.proofs.WordLaws.{ext, bit_shr, bit_high, bit_of_zero}
use Rattle.cells.proofs.MaskLaws.{low_in, low_out, low_lt}

-- a sign bit without a unit bit
bad_zero : (a b : ℕ) → a < 2 → b < 2 → min b (differ b a) ≡ 0 → b ≤ a
bad_zero a b ha hb =
    bits (λ (x : ℕ). min b (differ b x) ≡ 0 → b ≤ x)
    (bits (λ (y : ℕ). min y (differ y 0) ≡ 0 → y ≤ 0) (λ e. omega arith) (λ e. absurd (omega arith)) b hb) (λ e. omega arith) a ha

zero_bad : (a b : ℕ) → a < 2 → b < 2 → b ≤ a → min b (differ b a) ≡ 0
zero_bad a b ha hb =
    bits (λ (x : ℕ). b ≤ x → min b (differ b x) ≡ 0) (λ e. omega arith)
    (bits (λ (y : ℕ). y ≤ 1 → min y (differ y 1) ≡ 0) (λ e. omega arith) (λ e. omega arith) b hb) a ha

-- a test of a word tells what holds just where the word is 0, and what holds elsewhere
tested : (w : ℕ) (b : Bool) → (w ≡ 0 → false ≡ b) → ((w ≡ 0 → ⊥) → true ≡ b) → not (w == 0) ≡ b
tested zero b none some = none refl
tested (suc w) b none some = let e : (suc w == 0) ≡ false = eqb-suc-zero w in rw e (some (λ z. omega arith))

-- a word with no bit is 0, and a Bool that is not false is true
yes_unless : (b : Bool) (w k : ℕ) → w < 2 ^ k → (w ≡ 0 → ⊥) → (b ≡ false → (t : ℕ) → t < k → bit w t ≡ 0) → true ≡ b
yes_unless true w k l ne h = refl
yes_unless false w k l ne h = absurd (ne (ext k w 0 l (omega arith) (λ t m. h refl t m ∙ sym (bit_of_zero t))))

module _ (u s n : ℕ) (small : n ≤ 64) where
  stray_bit : (t : ℕ) → bit (bit_and (bit_and s (bit_xor s u)) (2 ^ n - 1)) t ≡ min (min (bit s t) (differ (bit s t) (bit u t))) (bit (2 ^ n - 1) t)
  stray_bit t = simp (bit_of_and, bit_of_xor)

  pub stray_none : bit_and (bit_and s (bit_xor s u)) (2 ^ n - 1) ≡ 0 → false ≡ any n (λ t. ltb (bit u t) (bit s t))
  stray_none e =
      sym (any_none (λ t. ltb (bit u t) (bit s t)) n
      (λ t l.
      let z : min (bit s t) (differ (bit s t) (bit u t)) ≡ 0 = omega (arith, stray_bit t, ap (λ (w : ℕ). bit w t) e, bit_of_zero t, low_in n t l, bit_lt s t) in
      le-ltb _ _ (bad_zero (bit u t) (bit s t) (bit_lt u t) (bit_lt s t) z)))

  pub stray_some : u < 2 ^ 64 → s < 2 ^ 64 → (bit_and (bit_and s (bit_xor s u)) (2 ^ n - 1) ≡ 0 → ⊥) → true ≡ any n (λ t. ltb (bit u t) (bit s t))
  stray_some hu hs ne =
      yes_unless (any n (λ t. ltb (bit u t) (bit s t))) (bit_and (bit_and s (bit_xor s u)) (2 ^ n - 1)) 64
      (and_lt 64 _ _ (and_lt 64 _ _ hs (xor_lt 64 _ _ hs hu)) (low_lt n small)) ne
      (λ e t l. stray_bit t ∙ go t (any_at (λ i. ltb (bit u i) (bit s i)) n e) (dec_lt t n))
    where
      go : (t : ℕ) → ((i : ℕ) → i < n → ltb (bit u i) (bit s i) ≡ false) → Dec (t < n) → min (min (bit s t) (differ (bit s t) (bit u t))) (bit (2 ^ n - 1) t) ≡ 0
      go t h (yes l) = omega (arith, zero_bad (bit u t) (bit s t) (bit_lt u t) (bit_lt s t) (ltb-false _ _ (h t l)))
      go t h (no m) = omega (arith, low_out n t (omega arith))

  pub stray_tested : u < 2 ^ 64 → s < 2 ^ 64 → not (bit_and (bit_and s (bit_xor s u)) (2 ^ n - 1) == 0) ≡ any n (λ t. ltb (bit u t) (bit s t))
  stray_tested hu hs = tested _ _ stray_none (stray_some hu hs)

module _ (u s n : ℕ) where
  padded_bit : (t : ℕ) → bit (bit_or u s / 2 ^ n) t ≡ max (bit u (n + t)) (bit s (n + t))
  padded_bit t = bit_shr (bit_or u s) n t ∙ bit_of_or u s (n + t)

  pub padded_none : bit_or u s / 2 ^ n ≡ 0 → false ≡ any (64 - n) (λ t. ltb 0 (digit u s (n + t)))
  unfolding digit
  padded_none e =
      sym (any_none (λ t. ltb 0 (digit u s (n + t))) (64 - n)
      (λ t l. le-ltb 0 (bit u (n + t) + bit s (n + t)) (omega (arith, padded_bit t, ap (λ (w : ℕ). bit w t) e, bit_of_zero t))))

  pub padded_some : u < 2 ^ 64 → s < 2 ^ 64 → (bit_or u s / 2 ^ n ≡ 0 → ⊥) → true ≡ any (64 - n) (λ t. ltb 0 (digit u s (n + t)))
  unfolding digit
  padded_some hu hs ne =
      yes_unless (any (64 - n) (λ t. ltb 0 (digit u s (n + t)))) (bit_or u s / 2 ^ n) 64 (omega (arith, or_lt 64 u s hu hs, shr_le (bit_or u s) n)) ne
      (λ e t l. padded_bit t ∙ go t (any_at (λ i. ltb 0 (digit u s (n + i))) (64 - n) e) (dec_lt (n + t) 64))
    where
      go : (t : ℕ) → ((i : ℕ) → i < 64 - n → ltb 0 (bit u (n + i) + bit s (n + i)) ≡ false) → Dec (n + t < 64) → max (bit u (n + t)) (bit s (n + t)) ≡ 0
      go t h (yes l) = omega (arith, ltb-false 0 (bit u (n + t) + bit s (n + t)) (h t (omega arith)))
      go t h (no m) = omega (arith, bit_high 64 u (n + t) hu (omega arith), bit_high 64 s (n + t) hs (omega arith))

  pub padded_tested : u < 2 ^ 64 → s < 2 ^ 64 → not (bit_or u s / 2 ^ n == 0) ≡ any (64 - n) (λ t. ltb 0 (digit u s (n + t)))
  padded_tested hu hs = tested _ _ padded_none (padded_some hu hs)

-- ---- the first place, which is that of the lowest set bit of a word of faults

-- f holds exactly where the word has a bit
module _ (w m : ℕ) (f : ℕ → Bool) (clear : (t : ℕ) → bit w t ≡ 0 → f t ≡ false) where
  pub some_bit : any m f ≡ true → 0 < w
  some_bit h = go w refl
    where
      go : (v : ℕ) → w ≡ v → 0 < v
      go zero e = absurd (true_false (any m f) h (any_none f m (λ t l. clear t (ap (λ (x : ℕ). bit x t) e ∙ bit_of_zero t))))
      go (suc v) e = omega arith

  pub first_bit : any m f ≡ true → ((t : ℕ) → bit w t ≡ 1 → f t ≡ true) → (k t rest : ℕ) → Peels k w t rest → least m f ≡ t
  first_bit h set k t rest P = least_of f m t h (set t P.set) (any_none f t (λ i l. clear i (P.below i l)))

module _ (u s : ℕ) where
  bad_bit : (t : ℕ) → bit (bit_and s (bit_xor s u)) t ≡ min (bit s t) (differ (bit s t) (bit u t))
  bad_bit t = simp (bit_of_and, bit_of_xor)

  pub stray_clear : (t : ℕ) → bit (bit_and s (bit_xor s u)) t ≡ 0 → ltb (bit u t) (bit s t) ≡ false
  stray_clear t e = le-ltb _ _ (bad_zero (bit u t) (bit s t) (bit_lt u t) (bit_lt s t) (sym (bad_bit t) ∙ e))

  pub stray_set : (t : ℕ) → bit (bit_and s (bit_xor s u)) t ≡ 1 → ltb (bit u t) (bit s t) ≡ true
  stray_set t e = go (dec_lt (bit u t) (bit s t))
    where
      go : Dec (bit u t < bit s t) → ltb (bit u t) (bit s t) ≡ true
      go (yes l) = lt-ltb _ _ l
      go (no l) = absurd (omega (arith, zero_bad (bit u t) (bit s t) (bit_lt u t) (bit_lt s t) (omega arith), bad_bit t, e))

module _ (u s n : ℕ) where
  pub padded_clear : (t : ℕ) → bit (bit_or u s / 2 ^ n) t ≡ 0 → ltb 0 (digit u s (n + t)) ≡ false
  unfolding digit
  padded_clear t e = le-ltb 0 (bit u (n + t) + bit s (n + t)) (omega (arith, padded_bit u s n t, e))

  pub padded_set : (t : ℕ) → bit (bit_or u s / 2 ^ n) t ≡ 1 → ltb 0 (digit u s (n + t)) ≡ true
  unfolding digit
  padded_set t e = lt-ltb 0 (bit u (n + t) + bit s (n + t)) (omega (arith, padded_bit u s n t, e))
