-- What `&`, `|` and `^` do to each bit of a number. Assumes nothing.
use Rattle.std.proofs.Common.{◌≡◌, ℕ, zero, suc, ◌/◌, ◌^◌, ◌<◌, min, max, arith}
use lib.Arith.{digits_mod}
use lib.Bits.{bit_and, bit_or, bit_xor, differ, and_shr, or_shr, xor_shr, and_step, or_step, xor_step}
use Rattle.cells.specs.Bit.{bit}

pub bit_lt : (w t : ℕ) → bit w t < 2
unfolding bit
bit_lt w t = omega arith

-- a property of 0 and of 1 is one of every bit
pub bits : (P : ℕ → Type 0) → P 0 → P 1 → (b : ℕ) → b < 2 → P b
bits P p q zero h = p
bits P p q (suc zero) h = q
bits P p q (suc (suc b)) h = absurd (omega arith)

min_bit : (x y : ℕ) → x < 2 → y < 2 → min x y < 2
min_bit x y h k = omega arith

max_bit : (x y : ℕ) → x < 2 → y < 2 → max x y < 2
max_bit x y h k = omega arith

differ_bit : (x y : ℕ) → x < 2 → y < 2 → differ x y < 2
differ_bit x y h k = bits (λ (a : ℕ). differ a y < 2) k (bits (λ (b : ℕ). differ 1 b < 2) (omega arith) (omega arith) y k) x h

pub bit_of_and : (a b t : ℕ) → bit (bit_and a b) t ≡ min (bit a t) (bit b t)
unfolding bit
bit_of_and a b t = rw (and_shr, and_step (a / 2 ^ t) (b / 2 ^ t)) (digits_mod _ (min_bit _ _ (bit_lt a t) (bit_lt b t)))

pub bit_of_or : (a b t : ℕ) → bit (bit_or a b) t ≡ max (bit a t) (bit b t)
unfolding bit
bit_of_or a b t = rw (or_shr, or_step (a / 2 ^ t) (b / 2 ^ t)) (digits_mod _ (max_bit _ _ (bit_lt a t) (bit_lt b t)))

pub bit_of_xor : (a b t : ℕ) → bit (bit_xor a b) t ≡ differ (bit a t) (bit b t)
unfolding bit
bit_of_xor a b t = rw (xor_shr, xor_step (a / 2 ^ t) (b / 2 ^ t)) (digits_mod _ (differ_bit _ _ (bit_lt a t) (bit_lt b t)))
