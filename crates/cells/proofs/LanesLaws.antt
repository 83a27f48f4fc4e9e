-- The lanes of a word that hold a bit. Assumes nothing.
use Rattle.std.proofs.Common.{mul_assoc, zero-add, mul-one, div-one, ◌≡◌, ℕ, zero, suc, ◌+◌, ◌-◌, ◌*◌, ◌/◌, ◌%◌, ◌^◌, ◌<◌, ◌≤◌, min, sym, refl, ap, ◌∙◌, subst, ap₂, add-zero, mul-le-mul_right, suc-mul, add-mul, zero-mul, add-one, one-add, arith, pow_pos, pow_mono, pow-add, shl_exact, shr_lt}
use lib.Arith.{digits_lt}
use lib.Pow.{split}
use lib.Bits.{bit_and, bit_or, bit_xor, differ, and_block, or_block, and_mask, mask_lt, and_zero_r, or_zero_l, or_zero_r, or_lt}
use lib.Count.{ones, ones_step, ones_cat}
use Rattle.cells.specs.Bit.{bit}
use Rattle.cells.specs.Pair.{LegalPair}
use Rattle.cells.specs.Lanes.{low_of, top_of, some_of, filled}
use Rattle.cells.proofs.BitLaws.{bit_lt, bit_of_xor}
use Rattle.cells.proofs.WordLaws.{bit_zero, bit_shr}
use Rattle.cells.proofs.PairLaws.{cases}

pub ones_zero : ones 0 ≡ 0
unfolding ones
ones_zero = refl

pub ones_one : ones 1 ≡ 1
ones_one = omega (arith, ones_step 1, ones_zero)

-- ---- one lane of j + 1 bits

module _ (j : ℕ) where
  abbrev T : ℕ
  T = 2 ^ j

  top_bit : (a b r s : ℕ) → r < T → s < T → bit_and (bit_or (a * T + r) (b * T + s)) T ≡ bit_and (bit_or a b) 1 * T
  top_bit a b r s hr hs =
      let one : T ≡ 1 * T + 0 = omega arith in
      ap₂ bit_and (or_block j a b r s hr hs) one ∙ and_block j (bit_or a b) 1 (bit_or r s) 0 (or_lt j r s hr hs) (pow_pos j)
      ∙ ap (λ (z : ℕ). bit_and (bit_or a b) 1 * T + z) (and_zero_r (bit_or r s)) ∙ add-zero _

  -- top bit d and low bits e: these carry where they are not 0
  parts : (d e : ℕ) → d < 2 → e < T → bit_and (bit_or (e + (T - 1)) (d * T + e)) T ≡ min 1 (d * T + e) * T
  parts zero zero hd he =
      let p : 0 < T = pow_pos j in
      let u : 0 + (T - 1) ≡ 0 * T + (T - 1) = omega arith in
      let m : min 1 (0 * T + 0) ≡ 0 = omega arith in
      ap (λ (z : ℕ). bit_and (bit_or z (0 * T + 0)) T) u ∙ top_bit 0 0 (T - 1) 0 (omega arith) he ∙ sym (ap (λ (z : ℕ). z * T) m)
  parts (suc zero) zero hd he =
      let p : 0 < T = pow_pos j in
      let u : 0 + (T - 1) ≡ 0 * T + (T - 1) = omega arith in
      let m : min 1 (1 * T + 0) ≡ 1 = omega arith in
      ap (λ (z : ℕ). bit_and (bit_or z (1 * T + 0)) T) u ∙ top_bit 0 1 (T - 1) 0 (omega arith) he ∙ sym (ap (λ (z : ℕ). z * T) m)
  parts zero (suc e) hd he =
      let u : suc e + (T - 1) ≡ 1 * T + e = omega arith in
      let m : min 1 (0 * T + suc e) ≡ 1 = omega arith in
      ap (λ (z : ℕ). bit_and (bit_or z (0 * T + suc e)) T) u ∙ top_bit 1 0 e (suc e) (omega arith) he ∙ sym (ap (λ (z : ℕ). z * T) m)
  parts (suc zero) (suc e) hd he =
      let u : suc e + (T - 1) ≡ 1 * T + e = omega arith in
      let m : min 1 (1 * T + suc e) ≡ 1 = omega arith in
      ap (λ (z : ℕ). bit_and (bit_or z (1 * T + suc e)) T) u ∙ top_bit 1 1 e (suc e) (omega arith) he ∙ sym (ap (λ (z : ℕ). z * T) m)
  parts (suc (suc d)) e hd he = absurd (omega arith)

  lane : (r : ℕ) → r < 2 ^ suc j → bit_and (bit_or (bit_and r (T - 1) + (T - 1)) r) T ≡ min 1 r * T
  lane r h =
      ap (λ (z : ℕ). bit_and (bit_or (z + (T - 1)) r) T) (and_mask r j)
      ∙ subst (λ (z : ℕ). bit_and (bit_or (r % T + (T - 1)) z) T ≡ min 1 z * T) (split r j) (parts (r / T) (r % T) few small)
    where
      small : r % 2 ^ j < 2 ^ j
      small = subst (λ (z : ℕ). z < 2 ^ j) (and_mask r j) (mask_lt r j)

      few : r / 2 ^ j < 2
      few = let q : r < 2 ^ (1 + j) = rw (one-add j) h in omega (arith, shr_lt {n = r} 1 j q)

  lane_ones : (r : ℕ) → ones (min 1 r * T) ≡ min 1 r
  lane_ones r = ap ones (sym (add-zero (min 1 r * T))) ∙ ones_cat j (min 1 r) 0 (pow_pos j) ∙ go r
    where
      go : (r : ℕ) → ones (min 1 r) + ones 0 ≡ min 1 r
      go zero = omega (arith, ones_zero)
      go (suc r) =
          let m : min 1 (suc r) ≡ 1 = omega arith in
          rw m (omega (arith, ones_zero, ones_one))

-- ---- n lanes

module _ (j : ℕ) where
  abbrev K : ℕ
  K = 2 ^ suc j

  regroup : (a b c d : ℕ) → (a * K + b) + (c * K + d) ≡ (a + c) * K + (b + d)
  regroup a b c d = omega (arith, add-mul a c K)

  lane_lt : (x : ℕ) → x % K < K
  lane_lt x = subst (λ (z : ℕ). z < K) (and_mask x (suc j)) (mask_lt x (suc j))

  some_next : (n x : ℕ) → some_of x (low_of j (suc n)) (top_of j (suc n)) ≡ some_of (x / K) (low_of j n) (top_of j n) * K + min 1 (x % K) * 2 ^ j
  unfolding some_of low_of top_of
  some_next n x =
      let L = low_of j n in
      let H = top_of j n in
      let X = x / K in
      let r = x % K in
      let c = 2 ^ j - 1 in
      let p : 0 < 2 ^ j = pow_pos j in
      let hr : r < K = lane_lt x in
      let hm : bit_and r c < 2 ^ j = mask_lt r j in
      ap (λ (z : ℕ). bit_and (bit_or (bit_and z (L * K + c) + (L * K + c)) z) (H * K + 2 ^ j)) (sym (split x (suc j)))
      ∙ ap (λ (z : ℕ). bit_and (bit_or (z + (L * K + c)) (X * K + r)) (H * K + 2 ^ j)) (and_block (suc j) X L r c hr (omega arith))
      ∙ ap (λ (z : ℕ). bit_and (bit_or z (X * K + r)) (H * K + 2 ^ j)) (regroup (bit_and X L) (bit_and r c) L c)
      ∙ ap (λ (z : ℕ). bit_and z (H * K + 2 ^ j)) (or_block (suc j) (bit_and X L + L) X (bit_and r c + c) r (omega arith) hr)
      ∙ and_block (suc j) (bit_or (bit_and X L + L) X) H (bit_or (bit_and r c + c) r) (2 ^ j) (or_lt (suc j) (bit_and r c + c) r (omega arith) hr) (omega arith)
      ∙ ap (λ (z : ℕ). bit_and (bit_or (bit_and X L + L) X) H * K + z) (lane j r hr)

  some_le : (r : ℕ) → min 1 r * 2 ^ j ≤ 2 ^ j
  some_le zero = omega arith
  some_le (suc r) = let m : min 1 (suc r) ≡ 1 = omega arith in rw m (omega arith)

  pub some_filled : (n x : ℕ) → ones (some_of x (low_of j n) (top_of j n)) ≡ filled (suc j) n x
  unfolding filled some_of top_of
  some_filled zero x = ap ones (and_zero_r (bit_or (bit_and x (low_of j 0) + low_of j 0) x)) ∙ ones_zero
  some_filled (suc n) x =
      let p : 0 < 2 ^ j = pow_pos j in
      let few : min 1 (x % K) * 2 ^ j ≤ 2 ^ j = some_le (x % K) in
      let more : 2 ^ j < 2 ^ suc j = omega arith in
      let small : min 1 (x % K) * 2 ^ j < 2 ^ suc j = omega arith in
      ap ones (some_next n x) ∙ ones_cat (suc j) (some_of (x / K) (low_of j n) (top_of j n)) (min 1 (x % K) * 2 ^ j) small
      ∙ omega (arith, some_filled n (x / K), lane_ones j (x % K))

-- ---- two words' lanes at once: the first word's are put one place down, where a lane has one, and else no place has both

abbrev pub Apart : ℕ → ℕ → Type 0
Apart x y = (t : ℕ) → bit x t + bit y t ≤ 1

apart_next : (k x y : ℕ) → Apart x y → Apart (x / 2 ^ k) (y / 2 ^ k)
apart_next k x y h t = omega (arith, bit_shr x k t, bit_shr y k t, h (k + t))

-- a cell that holds a 1 holds no 2
pub good_apart : (u s : ℕ) → LegalPair u s → Apart (bit_xor u s) s
unfolding LegalPair
good_apart u s h t = omega (arith, bit_of_xor u s t, one (bit u t) (bit s t) (bit_lt u t) (h t), bit_lt u t)
  where
    one : (u s : ℕ) → u < 2 → s ≤ u → differ u s + s ≡ u
    one = cases (λ (u s : ℕ). differ u s + s ≡ u) refl refl refl

none_or : bit_or 0 0 ≡ 0
none_or = or_zero_l 0

ones_bit : (a : ℕ) → a < 2 → ones a ≡ a
ones_bit zero h = ones_zero
ones_bit (suc zero) h = ones_one
ones_bit (suc (suc a)) h = absurd (omega arith)

-- of two bits at one place
same_place : (a b : ℕ) → a + b ≤ 1 → ones (bit_or a b) ≡ a + b
same_place zero b h = ap ones (or_zero_l b) ∙ ones_bit b (omega arith) ∙ sym (zero-add b)
same_place (suc zero) zero h = ap ones (or_zero_r 1) ∙ ones_one
same_place (suc zero) (suc b) h = absurd (omega arith)
same_place (suc (suc a)) b h = absurd (omega arith)

-- and at neighbouring places
next_place : (i a b : ℕ) → a < 2 → b < 2 → ones (bit_or (a * 2 ^ i) (b * 2 ^ suc i)) ≡ a + b
next_place i a b ha hb =
    let p : 0 < 2 ^ i = pow_pos i in
    let twice : 2 ^ suc i ≡ 2 * 2 ^ i = omega arith in
    let two : b * 2 ^ suc i ≡ b * 2 * 2 ^ i + 0 = ap (λ (z : ℕ). b * z) twice ∙ sym (mul_assoc b 2 (2 ^ i)) ∙ sym (add-zero _) in
    let a0 : a ≡ 0 * 2 ^ 1 + a = omega arith in
    let b0 : b * 2 ≡ b * 2 ^ 1 + 0 = omega arith in
    let low : bit_or a (b * 2) ≡ b * 2 ^ 1 + a = ap₂ bit_or a0 b0 ∙ or_block 1 0 b a 0 ha (omega arith) ∙ ap₂ (λ (u v : ℕ). u * 2 ^ 1 + v) (or_zero_l b) (or_zero_r a) in
    let e : bit_or (a * 2 ^ i) (b * 2 ^ suc i) ≡ bit_or a (b * 2) * 2 ^ i + 0 = ap₂ bit_or (sym (add-zero (a * 2 ^ i))) two ∙ or_block i a (b * 2) 0 0 p p ∙ ap (λ (z : ℕ). bit_or a (b * 2) * 2 ^ i + z) none_or in
    ap ones e ∙ ones_cat i (bit_or a (b * 2)) 0 p ∙ omega (arith, ap ones low, ones_cat 1 b a (omega arith), ones_bit a ha, ones_bit b hb, ones_zero)

abbrev tops : ℕ → ℕ → ℕ → ℕ
tops j n x = some_of x (low_of j n) (top_of j n)

no_tops : (j x : ℕ) → tops j 0 x ≡ 0
unfolding some_of top_of
no_tops j x = and_zero_r (bit_or (bit_and x (low_of j 0) + low_of j 0) x)

-- lanes of one bit
single : (n x y : ℕ) → Apart x y → ones (bit_or (tops 0 n x) (tops 0 n y)) ≡ filled 1 n x + filled 1 n y
unfolding filled
single zero x y h = ap ones (ap₂ bit_or (no_tops 0 x) (no_tops 0 y) ∙ none_or) ∙ ones_zero
single (suc n) x y h =
    let a = min 1 (x % 2 ^ 1) in
    let b = min 1 (y % 2 ^ 1) in
    let few : a + b ≤ 1 = omega (arith, h 0, bit_zero x, bit_zero y) in
    let sa : a * 2 ^ 0 < 2 ^ 1 = omega arith in
    let sb : b * 2 ^ 0 < 2 ^ 1 = omega arith in
    let low : ones (bit_or (a * 2 ^ 0) (b * 2 ^ 0)) ≡ a + b = ap ones (ap₂ bit_or (mul-one a) (mul-one b)) ∙ same_place a b few in
    ap ones (ap₂ bit_or (some_next 0 n x) (some_next 0 n y) ∙ or_block 1 (tops 0 n (x / 2 ^ 1)) (tops 0 n (y / 2 ^ 1)) (a * 2 ^ 0) (b * 2 ^ 0) sa sb)
    ∙ ones_cat 1 (bit_or (tops 0 n (x / 2 ^ 1)) (tops 0 n (y / 2 ^ 1))) (bit_or (a * 2 ^ 0) (b * 2 ^ 0)) (or_lt 1 (a * 2 ^ 0) (b * 2 ^ 0) sa sb)
    ∙ omega (arith, single n (x / 2 ^ 1) (y / 2 ^ 1) (apart_next 1 x y h), low)

-- lanes of more bits: the top bits are at even weights
module _ (i : ℕ) where
  doubled : (n x : ℕ) → tops (suc i) (suc n) x ≡ (tops (suc i) n (x / 2 ^ suc (suc i)) * 2 ^ suc i + min 1 (x % 2 ^ suc (suc i)) * 2 ^ i) * 2
  doubled n x =
      let e : 2 ^ suc (suc i) ≡ 2 ^ suc i * 2 = omega arith in
      let e' : 2 ^ suc i ≡ 2 ^ i * 2 = omega arith in
      some_next (suc i) n x ∙ ap₂ (λ (u v : ℕ). tops (suc i) n (x / 2 ^ suc (suc i)) * u + min 1 (x % 2 ^ suc (suc i)) * v) e e' ∙ ap₂ ◌+◌ (sym (mul_assoc (tops (suc i) n (x / 2 ^ suc (suc i))) (2 ^ suc i) 2)) (sym (mul_assoc (min 1 (x % 2 ^ suc (suc i))) (2 ^ i) 2))
      ∙ sym (add-mul (tops (suc i) n (x / 2 ^ suc (suc i)) * 2 ^ suc i) (min 1 (x % 2 ^ suc (suc i)) * 2 ^ i) 2)

  even : (n x : ℕ) → tops (suc i) n x ≡ tops (suc i) n x / 2 * 2
  even zero x = let e : tops (suc i) 0 x ≡ 0 = no_tops (suc i) x in omega (arith, e)
  even (suc n) x = let e = doubled n x in omega (arith, e)

  half : (n x : ℕ) → tops (suc i) (suc n) x / 2 ^ 1 ≡ tops (suc i) n (x / 2 ^ suc (suc i)) / 2 ^ 1 * 2 ^ suc (suc i) + min 1 (x % 2 ^ suc (suc i)) * 2 ^ i
  half n x =
      let t = tops (suc i) n (x / 2 ^ suc (suc i)) in
      let e = doubled n x in
      let four : 2 * 2 ^ suc i ≡ 2 ^ suc (suc i) = omega arith in
      let up : t * 2 ^ suc i ≡ t / 2 * 2 ^ suc (suc i) = ap (λ (z : ℕ). z * 2 ^ suc i) (even n (x / 2 ^ suc (suc i))) ∙ mul_assoc (t / 2) 2 (2 ^ suc i) ∙ ap (λ (z : ℕ). t / 2 * z) four in
      let h : tops (suc i) (suc n) x / 2 ^ 1 ≡ t * 2 ^ suc i + min 1 (x % 2 ^ suc (suc i)) * 2 ^ i = omega (arith, e) in
      h ∙ ap (λ (z : ℕ). z + min 1 (x % 2 ^ suc (suc i)) * 2 ^ i) up

  double : (n x y : ℕ) → ones (bit_or (tops (suc i) n x / 2 ^ 1) (tops (suc i) n y)) ≡ filled (suc (suc i)) n x + filled (suc (suc i)) n y
  unfolding filled
  double zero x y = ap ones (ap₂ bit_or (ap (λ (z : ℕ). z / 2 ^ 1) (no_tops (suc i) x)) (no_tops (suc i) y) ∙ none_or) ∙ ones_zero
  double (suc n) x y =
      let a = min 1 (x % 2 ^ suc (suc i)) in
      let b = min 1 (y % 2 ^ suc (suc i)) in
      let p = pow_pos i in
      let sa : a * 2 ^ i < 2 ^ suc (suc i) = omega (arith, some_le i (x % 2 ^ suc (suc i)), p) in
      let sb : b * 2 ^ suc i < 2 ^ suc (suc i) = omega (arith, some_le (suc i) (y % 2 ^ suc (suc i)), p) in
      let ha : a < 2 = omega arith in
      let hb : b < 2 = omega arith in
      ap ones (ap₂ bit_or (half n x) (some_next (suc i) n y) ∙ or_block (suc (suc i)) (tops (suc i) n (x / 2 ^ suc (suc i)) / 2 ^ 1) (tops (suc i) n (y / 2 ^ suc (suc i))) (a * 2 ^ i) (b * 2 ^ suc i) sa sb)
      ∙ ones_cat (suc (suc i)) (bit_or (tops (suc i) n (x / 2 ^ suc (suc i)) / 2 ^ 1) (tops (suc i) n (y / 2 ^ suc (suc i)))) (bit_or (a * 2 ^ i) (b * 2 ^ suc i)) (or_lt (suc (suc i)) (a * 2 ^ i) (b * 2 ^ suc i) sa sb)
      ∙ omega (arith, double n (x / 2 ^ suc (suc i)) (y / 2 ^ suc (suc i)), next_place i a b ha hb)

pub both_filled : (j n put x y : ℕ) → put ≡ min 1 j → Apart x y
    → ones (bit_or (some_of x (low_of j n) (top_of j n) / 2 ^ put) (some_of y (low_of j n) (top_of j n))) ≡ filled (suc j) n x + filled (suc j) n y
both_filled zero n put x y e h =
    let none : put ≡ 0 = omega arith in
    ap (λ (z : ℕ). ones (bit_or z (tops 0 n y))) (ap (λ (z : ℕ). tops 0 n x / 2 ^ z) none ∙ div-one (tops 0 n x)) ∙ single n x y h
both_filled (suc i) n put x y e h =
    let one : put ≡ 1 = omega arith in
    ap (λ (z : ℕ). ones (bit_or (tops (suc i) n x / 2 ^ z) (tops (suc i) n y))) one ∙ double i n x y

-- ---- how large they are

module _ (j : ℕ) where
  power : (n : ℕ) → 2 ^ (suc n * suc j) ≡ 2 ^ (n * suc j) * 2 ^ suc j
  power n = let e : suc n * suc j ≡ n * suc j + suc j = omega (arith, suc-mul n (suc j)) in rw e (pow-add 2 (n * suc j) (suc j))

  pub top_lt : (n : ℕ) → top_of j n < 2 ^ (n * suc j)
  unfolding top_of
  top_lt zero = rw (zero-mul (suc j)) (omega arith)
  top_lt (suc n) = let more : 2 ^ j < 2 ^ suc j = omega (arith, pow_pos j) in rw (power n) (digits_lt (top_lt n) more)

  -- twice the low bits have room
  pub low_lt : (n : ℕ) → low_of j n + low_of j n < 2 ^ (n * suc j)
  unfolding low_of
  low_lt zero = rw (zero-mul (suc j)) (omega arith)
  low_lt (suc n) =
      let p : 0 < 2 ^ j = pow_pos j in
      let more : (2 ^ j - 1) + (2 ^ j - 1) < 2 ^ suc j = omega arith in
      let half : (low_of j n * 2 ^ suc j + (2 ^ j - 1)) + (low_of j n * 2 ^ suc j + (2 ^ j - 1)) ≡ (low_of j n + low_of j n) * 2 ^ suc j + ((2 ^ j - 1) + (2 ^ j - 1)) = regroup j (low_of j n) (2 ^ j - 1) (low_of j n) (2 ^ j - 1) in
      rw (power n, half) (digits_lt (low_lt n) more)

pub low_none : (j : ℕ) → 0 ≡ low_of j 0
unfolding low_of
low_none j = refl

pub top_none : (j : ℕ) → 0 ≡ top_of j 0
unfolding top_of
top_none j = refl

-- ---- one lane more

-- what one lane more makes of them, and that it has room
pub record Next (k i low₀ top₀ one : ℕ) : Type 0 where
  pub low : low₀ * 2 ^ k % 18446744073709551616 + (one - 1) ≡ low_of (k - 1) (i + 1)
  pub top : top₀ * 2 ^ k % 18446744073709551616 + one ≡ top_of (k - 1) (i + 1)
  pub low_fits : low_of (k - 1) (i + 1) < 18446744073709551616
  pub top_fits : top_of (k - 1) (i + 1) < 18446744073709551616

pub next_lane : (k i low top one : ℕ) → 0 < k → i * k + k ≤ 64 → one ≡ 2 ^ (k - 1) → low ≡ low_of (k - 1) i → top ≡ top_of (k - 1) i → Next k i low top one
unfolding low_of top_of
next_lane zero i low top one pos room eo el et = absurd (omega arith)
next_lane (suc j) i low top one pos room eo el et =
    let e : suc j - 1 ≡ j = omega arith in
    let el' : low ≡ low_of j i = rw e at el in
    let et' : top ≡ top_of j i = rw e at et in
    let eo' : one ≡ 2 ^ j = rw e at eo in
    let hl : low < 2 ^ (i * suc j) = omega (arith, low_lt j i) in
    let ht : top < 2 ^ (i * suc j) = omega (arith, top_lt j i) in
    let sl : low * 2 ^ suc j % 2 ^ 64 ≡ low * 2 ^ suc j = shl_exact (i * suc j) (suc j) 64 hl room in
    let st : top * 2 ^ suc j % 2 ^ 64 ≡ top * 2 ^ suc j = shl_exact (i * suc j) (suc j) 64 ht room in
    let few : suc i * suc j ≤ 64 = omega (arith, suc-mul i (suc j)) in
    let le : 2 ^ (suc i * suc j) ≤ 2 ^ 64 = pow_mono few in
    let ql : low_of (suc j - 1) (i + 1) ≡ low_of j (suc i) = ap₂ low_of e (add-one i) in
    let qt : top_of (suc j - 1) (i + 1) ≡ top_of j (suc i) = ap₂ top_of e (add-one i) in
    record {
      low = ap₂ ◌+◌ (sl ∙ ap (λ (z : ℕ). z * 2 ^ suc j) el') (ap (λ (z : ℕ). z - 1) eo') ∙ sym ql;
      top = ap₂ ◌+◌ (st ∙ ap (λ (z : ℕ). z * 2 ^ suc j) et') eo' ∙ sym qt;
      low_fits = omega (arith, ql, low_lt j (suc i));
      top_fits = omega (arith, qt, top_lt j (suc i));
    }

pub lanes_room : (k n : ℕ) → 0 < k → n * k ≤ 64 → low_of (k - 1) n < 2 ^ 63
lanes_room zero n pos room = absurd (omega arith)
lanes_room (suc j) n pos room =
    let e : suc j - 1 ≡ j = omega arith in
    let le : 2 ^ (n * suc j) ≤ 2 ^ 64 = pow_mono room in
    rw e (omega (arith, low_lt j n))

pub first_top : (k : ℕ) → 0 < k → k ≤ 8 → 1 * 2 ^ (k - 1) % 18446744073709551616 ≡ 2 ^ (k - 1)
first_top k pos h =
    let few : k - 1 ≤ 8 = omega arith in
    let e : 2 ^ (k - 1) ≤ 2 ^ 8 = pow_mono few in
    omega arith

pub lane_room : (i n k : ℕ) → i < n → n * k ≤ 64 → i * k + k ≤ 64
lane_room i n k h room =
    let m : suc i * k ≤ n * k = mul-le-mul_right k h in
    omega (arith, suc-mul i k)

pub cut_next : (k n i low top : ℕ) → 0 < k → k ≤ 8 → n * k ≤ 64 → i < n → low ≡ low_of (k - 1) i → top ≡ top_of (k - 1) i
    → Next k i low top (1 * 2 ^ (k - 1) % 18446744073709551616)
cut_next k n i low top pos h room l el et = next_lane k i low top _ pos (lane_room i n k l room) (first_top k pos h) el et
