-- A bit, and a digit, at each of the 64 places; sums with what is scaled. Assumes nothing.
use Rattle.std.proofs.Common.{◌≡◌, ℕ, zero, suc, ◌+◌, ◌-◌, ◌*◌, ◌/◌, ◌%◌, ◌^◌, ◌<◌, ◌≤◌, ap, ◌∙◌, mul_comm, arith}
use native.Mathlib.Decide.{dec_lt}
use Rattle.cells.specs.Bit.{bit}
use Rattle.cells.specs.Digit.{mul3, combine}
use Rattle.cells.specs.Pair.{digit, LegalPair, Holds}
use Rattle.cells.specs.Scaling.{Spread}
use Rattle.cells.proofs.WordLaws.{bit_high, bit_of_zero}
use Rattle.cells.proofs.MaskLaws.{low_in}

-- 0 less a bit, wrapping, is the bit at every place
pub mask_bit : (r b : ℕ) → r < 2 ^ 64 → b < 2 → (r + b) % 2 ^ 64 ≡ 0 → (t : ℕ) → t < 64 → bit r t ≡ b
mask_bit r zero hr hb e t l = ap (λ (x : ℕ). bit x t) (let z : r ≡ 0 = omega arith in z) ∙ bit_of_zero t
mask_bit r (suc zero) hr hb e t l = ap (λ (x : ℕ). bit x t) (let z : r ≡ 2 ^ 64 - 1 = omega arith in z) ∙ low_in 64 t l
mask_bit r (suc (suc b)) hr hb e t l = absurd (omega arith)

pub spread_law : (d u s : ℕ) → d < 3 → u < 2 ^ 64 → s < 2 ^ 64 → (u + (d + 1) / 2) % 2 ^ 64 ≡ 0 → (s + d / 2) % 2 ^ 64 ≡ 0 → Spread d u s
unfolding LegalPair digit
spread_law d u s h hu hs eu es = record { legal = λ t. go t (dec_lt t 64); digits = λ t l. omega (arith, unit t l, sign t l) }
  where
    unit : (t : ℕ) → t < 64 → bit u t ≡ (d + 1) / 2
    unit t l = mask_bit u ((d + 1) / 2) hu (omega arith) eu t l

    sign : (t : ℕ) → t < 64 → bit s t ≡ d / 2
    sign t l = mask_bit s (d / 2) hs (omega arith) es t l

    go : (t : ℕ) → Dec (t < 64) → bit s t ≤ bit u t
    go t (yes l) = omega (arith, unit t l, sign t l)
    go t (no n) = omega (arith, bit_high 64 s t hs (omega arith))

-- a product by a digit at every place is one by the digit
pub scale_law : (a b c e u s d : ℕ) → a < 2 ^ 64 → LegalPair a b → Spread d c e → Holds (λ t. mul3 (digit a b t) (digit c e t)) u s → Holds (λ t. mul3 (digit a b t) d) u s
unfolding LegalPair digit mul3
scale_law a b c e u s d ha hl h k = record { legal = k.legal; digits = λ t. k.digits t ∙ go t (dec_lt t 64) }
  where
    go : (t : ℕ) → Dec (t < 64) → mul3 (digit a b t) (digit c e t) ≡ mul3 (digit a b t) d
    go t (yes l) = ap (mul3 (digit a b t)) (h.digits t l)
    go t (no n) =
        let z : digit a b t ≡ 0 = omega (arith, bit_high 64 a t ha (omega arith), hl t) in
        rw z (omega arith)

-- a sum with d times b
pub combine_scaled : (d a b : ℕ) → combine 1 a (mul3 b d) ≡ combine d a b
unfolding combine mul3
combine_scaled d a b = let e : d * b ≡ b * d = mul_comm d b in rw e (omega arith)
