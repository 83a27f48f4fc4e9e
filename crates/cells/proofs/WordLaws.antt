-- A number by its bits: two numbers of k bits with the same bits are one. Shifts and remainders, bit by bit. Assumes nothing.
use Rattle.std.proofs.Common.{◌≡◌, ℕ, zero, suc, ◌+◌, ◌-◌, ◌*◌, ◌/◌, ◌%◌, ◌^◌, ◌<◌, ◌≤◌, sym, ap, ◌∙◌, suc-le-suc, add-one, one-add, arith, pow_pos, pow_mono, shr-shr}
use native.Mathlib.Nat.{div-eq_of_lt}
use lib.Arith.{digits_div, digits_mod}
use lib.Pow.{shl-shr, mod-pow-add}
use lib.Bits.{shifted_half, shifted_even}
use Rattle.cells.specs.Bit.{bit, word_of}

pub bit_zero : (w : ℕ) → bit w 0 ≡ w % 2
unfolding bit
bit_zero w = omega arith

pub bit_suc : (w t : ℕ) → bit w (suc t) ≡ bit (w / 2) t
unfolding bit
bit_suc w t = rw (shr-shr w 1 t, one-add t)

-- past its length a number has no bit
pub bit_high : (k w t : ℕ) → w < 2 ^ k → k ≤ t → bit w t ≡ 0
unfolding bit
bit_high k w t h l =
    let small : w < 2 ^ t = omega (arith, pow_mono l) in
    rw (div-eq_of_lt small)

pub bit_of_zero : (t : ℕ) → bit 0 t ≡ 0
bit_of_zero t = bit_high 0 0 t (omega arith) (omega arith)

half_lt : (k w : ℕ) → w < 2 ^ suc k → w / 2 < 2 ^ k
half_lt k w h = omega arith

pub ext : (k a b : ℕ) → a < 2 ^ k → b < 2 ^ k → ((t : ℕ) → t < k → bit a t ≡ bit b t) → a ≡ b
ext zero a b ha hb h = omega arith
ext (suc k) a b ha hb h =
    let low : a % 2 ≡ b % 2 = rw (bit_zero a, bit_zero b) at (h 0 (omega arith)) in
    let high : a / 2 ≡ b / 2 = ext k (a / 2) (b / 2) (half_lt k a ha) (half_lt k b hb) (λ t l. rw (bit_suc a t, bit_suc b t) at (h (suc t) (suc-le-suc l))) in
    omega arith

module _ where
  pub word_of_lt : (f : ℕ → ℕ) (n : ℕ) → ((t : ℕ) → f t < 2) → word_of f n < 2 ^ n
  unfolding word_of
  word_of_lt f zero h = omega arith
  word_of_lt f (suc n) h = omega (arith, word_of_lt (λ t. f (suc t)) n (λ t. h (suc t)), h 0)

  pub word_of_bit : (f : ℕ → ℕ) (n t : ℕ) → ((i : ℕ) → f i < 2) → t < n → bit (word_of f n) t ≡ f t
  unfolding word_of
  word_of_bit f zero t h l = absurd (omega arith)
  word_of_bit f (suc n) zero h l = bit_zero _ ∙ digits_mod _ (h 0)
  word_of_bit f (suc n) (suc t) h l =
      bit_suc _ t ∙ ap (λ (x : ℕ). bit x t) (digits_div _ (h 0)) ∙ word_of_bit (λ i. f (suc i)) n t (λ i. h (suc i)) (omega arith)

-- a word is the word of its bits
pub word_of_unique : (f : ℕ → ℕ) (n w : ℕ) → ((i : ℕ) → f i < 2) → w < 2 ^ n → ((t : ℕ) → t < n → bit w t ≡ f t) → w ≡ word_of f n
word_of_unique f n w h l e = ext n w (word_of f n) l (word_of_lt f n h) (λ t k. e t k ∙ sym (word_of_bit f n t h k))

-- ---- the other operations of a machine word, bit by bit

-- `w >> k`
pub bit_shr : (w k t : ℕ) → bit (w / 2 ^ k) t ≡ bit w (k + t)
unfolding bit
bit_shr w k t = rw (shr-shr w k t)

-- the bits of `w % 2 ^ k`, and so of a word that wrapped, and of `w & 0xff`
pub bit_mod : (w k t : ℕ) → t < k → bit (w % 2 ^ k) t ≡ bit w t
bit_mod w zero t l = absurd (omega arith)
bit_mod w (suc k) t l = ap (λ (x : ℕ). bit x t) (rw (add-one k) at (mod-pow-add w k 1)) ∙ go (λ i m. bit_mod (w / 2) k i m) t l
  where
    go : ((i : ℕ) → i < k → bit (w / 2 % 2 ^ k) i ≡ bit (w / 2) i) → (i : ℕ) → i < suc k → bit (w / 2 % 2 ^ k * 2 + w % 2) i ≡ bit w i
    go ih zero m = omega (arith, bit_zero w, bit_zero (w / 2 % 2 ^ k * 2 + w % 2))
    go ih (suc i) m =
        let half : (w / 2 % 2 ^ k * 2 + w % 2) / 2 ≡ w / 2 % 2 ^ k = omega arith in
        bit_suc _ i ∙ ap (λ (x : ℕ). bit x i) half ∙ ih i (omega arith) ∙ sym (bit_suc w i)

-- `w << k`, before it wraps: nothing below k, and the bits of w above
pub bit_shl_low : (w k t : ℕ) → t < k → bit (w * 2 ^ k) t ≡ 0
bit_shl_low w zero t l = absurd (omega arith)
bit_shl_low w (suc k) zero l = bit_zero _ ∙ shifted_even w k
bit_shl_low w (suc k) (suc t) l = bit_suc _ t ∙ ap (λ (x : ℕ). bit x t) (shifted_half w k) ∙ bit_shl_low w k t (omega arith)

pub bit_shl_high : (w k t : ℕ) → bit (w * 2 ^ k) (k + t) ≡ bit w t
bit_shl_high w k t = sym (bit_shr (w * 2 ^ k) k t) ∙ ap (λ (x : ℕ). bit x t) (shl-shr w k)

-- `!w`, of n bits
pub bit_not : (n w t : ℕ) → w < 2 ^ n → t < n → bit (2 ^ n - 1 - w) t ≡ 1 - bit w t
bit_not zero w t h l = absurd (omega arith)
bit_not (suc n) w zero h l = omega (arith, bit_zero w, bit_zero (2 ^ suc n - 1 - w), pow_pos n)
bit_not (suc n) w (suc t) h l =
    let half : (2 ^ suc n - 1 - w) / 2 ≡ 2 ^ n - 1 - w / 2 = omega (arith, pow_pos n) in
    bit_suc _ t ∙ ap (λ (x : ℕ). bit x t) half ∙ bit_not n (w / 2) t (half_lt n w h) (omega arith) ∙ ap (λ (x : ℕ). 1 - x) (sym (bit_suc w t))
