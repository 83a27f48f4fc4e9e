-- The lowest set bit of a number: its trailing zeros give the place, and x & (x - 1) clears it. Assumes nothing.
use Rattle.std.proofs.Common.{◌≡◌, ℕ, zero, suc, ◌+◌, ◌-◌, ◌*◌, ◌/◌, ◌%◌, ◌^◌, ◌<◌, sym, refl, ap, ◌∙◌, ap₂, suc-le-suc, add-zero, one-mul, pow-suc, mul-div_cancel, arith, pow_pos}
use lib.Count.{count_trailing_zeros, under}
use lib.Bits.{bit_and, bit_or, and_block, and_self, and_shifted, or_shifted}
use Rattle.cells.specs.Bit.{bit}
use Rattle.cells.specs.Lowest.{Peels}
use Rattle.cells.proofs.BitLaws.{bit_of_or}
use Rattle.cells.proofs.WordLaws.{bit_zero, bit_suc, bit_of_zero, bit_shl_low}

-- a number that is not 0 is odd above its trailing zeros
pub odd_part : (k n : ℕ) → 0 < n → n < 2 ^ k → (q : ℕ) × (n ≡ (q * 2 + 1) * 2 ^ count_trailing_zeros k n) × (count_trailing_zeros k n < k)
unfolding count_trailing_zeros
odd_part zero n p h = absurd (omega arith)
odd_part (suc k) n p h = go (odd_part k (n / 2)) (n % 2) refl
  where
    go : (0 < n / 2 → n / 2 < 2 ^ k → (q : ℕ) × (n / 2 ≡ (q * 2 + 1) * 2 ^ count_trailing_zeros k (n / 2)) × (count_trailing_zeros k (n / 2) < k)) → (r : ℕ)
        → n % 2 ≡ r → (q : ℕ) × (n ≡ (q * 2 + 1) * 2 ^ under r (count_trailing_zeros k (n / 2))) × (under r (count_trailing_zeros k (n / 2)) < suc k)
    go above zero e =
        let ih = above (omega arith) (omega arith) in
        (ih.0, rw (pow-suc 2 (count_trailing_zeros k (n / 2))) (omega (arith, ih.1)), suc-le-suc ih.2)
    go above (suc r) e = (n / 2, omega arith, omega arith)

pub bit_pow : (t i : ℕ) → (i ≡ t → ⊥) → bit (2 ^ t) i ≡ 0
bit_pow zero zero f = absurd (f refl)
bit_pow zero (suc i) f = bit_suc 1 i ∙ bit_of_zero i
bit_pow (suc t) zero f = bit_zero _ ∙ omega arith
bit_pow (suc t) (suc i) f =
    let half : 2 ^ suc t / 2 ≡ 2 ^ t = omega arith in
    bit_suc _ i ∙ ap (λ (x : ℕ). bit x i) half ∙ bit_pow t i (λ e. f (ap suc e))

pub bit_top : (q t : ℕ) → bit ((q * 2 + 1) * 2 ^ t) t ≡ 1
unfolding bit
bit_top q t = rw (mul-div_cancel (q * 2 + 1) (pow_pos t)) (omega arith)

-- x & (x - 1)
pub clear : (q t : ℕ) → bit_and ((q * 2 + 1) * 2 ^ t) ((q * 2 + 1) * 2 ^ t - 1) ≡ q * 2 ^ suc t
clear q t =
    let p : 0 < 2 ^ t = pow_pos t in
    let e₁ : (q * 2 + 1) * 2 ^ t ≡ q * 2 ^ suc t + 2 ^ t = rw (pow-suc 2 t) (omega arith) in
    let e₂ : (q * 2 + 1) * 2 ^ t - 1 ≡ q * 2 ^ suc t + (2 ^ t - 1) = rw (pow-suc 2 t) (omega arith) in
    let z : bit_and (2 ^ t) (2 ^ t - 1) ≡ 0 = rw one-mul at (and_shifted 1 t (2 ^ t - 1) (omega arith)) in
    ap₂ bit_and e₁ e₂ ∙ and_block (suc t) q q (2 ^ t) (2 ^ t - 1) (omega arith) (omega arith) ∙ rw (and_self, z) (add-zero _)

-- what the place t and the number with the bit cleared have to do with x
pub peel : (k x : ℕ) → 0 < x → x < 2 ^ k → Peels k x (count_trailing_zeros k x) (bit_and x (x - 1))
peel k x p h =
    let o = odd_part k x p h in
    go o.0 (count_trailing_zeros k x) x (bit_and x (x - 1)) o.1 (ap (λ (n : ℕ). bit_and n (n - 1)) o.1 ∙ clear o.0 (count_trailing_zeros k x)) o.2
  where
    go : (q t n rest : ℕ) → n ≡ (q * 2 + 1) * 2 ^ t → rest ≡ q * 2 ^ suc t → t < k → Peels k n t rest
    go q t n rest e r l =
        let pos : 0 < 2 ^ t = pow_pos t in
        let sum : n ≡ rest + 2 ^ t = rw (e, r, pow-suc 2 t) (omega arith) in
        let low : bit rest t ≡ 0 = rw r (bit_shl_low q (suc t) t (omega arith)) in
        let either : n ≡ bit_or rest (2 ^ t) = sum ∙ rw r (sym (or_shifted q (suc t) (2 ^ t) (omega arith))) in
        record {
          place = l;
          set = rw e (bit_top q t);
          below = λ i m. rw e (bit_shl_low (q * 2 + 1) t i m);
          split = sum;
          less = omega arith;
          cleared = low;
          others = λ i f. omega (arith, ap (λ (w : ℕ). bit w i) either, bit_of_or rest (2 ^ t) i, bit_pow t i f);
        }
