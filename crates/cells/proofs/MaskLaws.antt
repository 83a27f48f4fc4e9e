-- The word of the lowest n places. Assumes nothing.
use Rattle.std.proofs.Common.{◌≡◌, ℕ, zero, suc, ◌+◌, ◌-◌, ◌/◌, ◌^◌, ◌<◌, ◌≤◌, sym, ap, ◌∙◌, arith, pow_pos, pow_mono}
use native.Mathlib.Decide.{dec_lt}
use lib.Pow.{shr_le}
use Rattle.cells.specs.Bit.{bit}
use Rattle.cells.proofs.WordLaws.{bit_zero, bit_suc, bit_high, bit_shr, ext}

pub low_in : (n t : ℕ) → t < n → bit (2 ^ n - 1) t ≡ 1
low_in zero t l = absurd (omega arith)
low_in (suc n) zero l = let p : 0 < 2 ^ n = pow_pos n in bit_zero _ ∙ omega arith
low_in (suc n) (suc t) l =
    let p : 0 < 2 ^ n = pow_pos n in
    let half : (2 ^ suc n - 1) / 2 ≡ 2 ^ n - 1 = omega arith in
    bit_suc _ t ∙ ap (λ (x : ℕ). bit x t) half ∙ low_in n t (omega arith)

pub low_out : (n t : ℕ) → n ≤ t → bit (2 ^ n - 1) t ≡ 0
low_out n t l = let p : 0 < 2 ^ n = pow_pos n in bit_high n (2 ^ n - 1) t (omega arith) l

pub low_lt : (n : ℕ) → n ≤ 64 → 2 ^ n - 1 < 2 ^ 64
low_lt n h = let p : 0 < 2 ^ n = pow_pos n in omega (arith, pow_mono h)

-- 64 set bits, shifted
pub low_shift : (n : ℕ) → n ≤ 64 → 18446744073709551615 / 2 ^ (64 - n) ≡ 2 ^ n - 1
low_shift n h = ext 64 _ _ (omega (arith, shr_le 18446744073709551615 (64 - n))) (low_lt n h) (λ t l. bit_shr 18446744073709551615 (64 - n) t ∙ go t (dec_lt t n))
  where
    go : (t : ℕ) → Dec (t < n) → bit 18446744073709551615 (64 - n + t) ≡ bit (2 ^ n - 1) t
    go t (yes l) = low_in 64 (64 - n + t) (omega arith) ∙ sym (low_in n t l)
    go t (no l) = bit_high 64 18446744073709551615 (64 - n + t) (omega arith) (omega arith) ∙ sym (low_out n t (omega arith))
