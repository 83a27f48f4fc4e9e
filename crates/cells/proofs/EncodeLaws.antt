-- The words that hold given digits are the only ones. Assumes nothing.
use Rattle.std.proofs.Common.{◌≡◌, ℕ, ◌^◌, ◌<◌, sym, ◌∙◌, arith}
use Rattle.cells.specs.Bit.{bit}
use Rattle.cells.specs.Digit.{unit_of, sign_of}
use Rattle.cells.specs.Pair.{digit, LegalPair, Holds}
use Rattle.cells.proofs.BitLaws.{bit_lt}
use Rattle.cells.proofs.WordLaws.{ext}

pub unit_lt : (n : ℕ) → unit_of n < 2
unfolding unit_of
unit_lt n = omega arith

pub sign_lt : (n : ℕ) → sign_of n < 2
unfolding sign_of
sign_lt n = omega arith

-- the bits of words that hold f
module _ (f : ℕ → ℕ) (u s : ℕ) (h : Holds f u s) where
  pub unit_bit : (t : ℕ) → bit u t ≡ unit_of (f t)
  unfolding unit_of LegalPair digit
  unit_bit t = omega (arith, h.legal t, h.digits t, bit_lt u t, bit_lt s t)

  pub sign_bit : (t : ℕ) → bit s t ≡ sign_of (f t)
  unfolding sign_of LegalPair digit
  sign_bit t = omega (arith, h.legal t, h.digits t, bit_lt u t, bit_lt s t)

-- words that hold the same digits are the same
pub same : (f : ℕ → ℕ) (u s v r : ℕ) → Holds f u s → Holds f v r → u < 2 ^ 64 → s < 2 ^ 64 → v < 2 ^ 64 → r < 2 ^ 64 → (u ≡ v) × (s ≡ r)
same f u s v r h k hu hs hv hr =
    (ext 64 u v hu hv (λ t l. unit_bit f u s h t ∙ sym (unit_bit f v r k t)), ext 64 s r hs hr (λ t l. sign_bit f u s h t ∙ sym (sign_bit f v r k t)))
