-- The bits of a block, taken from one word or from two. Assumes nothing.
use mathlib.Core.Path.{◌≡◌, refl, sym, ap, ap₂, ◌∙◌}
use mathlib.Core.List.{List}
use Prim.Native.Nat.{ℕ, ◌+◌, ◌-◌, ◌*◌, ◌/◌, ◌%◌, ◌^◌, ◌≤◌, ◌<◌, max}
use native.Mathlib.Decide.{dec_lt}
use native.Mathlib.Omega.{arith}
use lib.ListN.{get_or}
use lib.Bits.{bit_and, bit_or, bit_xor, differ, mask_lt, xor_lt}
use Rattle.cells.specs.Bit.{bit, word_of}
use Rattle.cells.specs.Counts.{is, bits_of}
use Rattle.cells.specs.Pair.{digit, LegalPair}
use Rattle.cells.proofs.BitLaws.{bit_lt, bit_of_and, bit_of_or, bit_of_xor}
use Rattle.cells.proofs.WordLaws.{bit_shr, bit_mod, bit_high, bit_shl_low, bit_shl_high, word_of_lt, word_of_bit, word_of_unique}
use Rattle.cells.proofs.MaskLaws.{low_in}
use Rattle.cells.proofs.PairLaws.{cases}
use Rattle.cells.proofs.CountLaws.{is_le}
use Rattle.buffers.specs.Buffer.{bit_at}
use Rattle.buffers.proofs.SizeLaws.{bit_at_lt}
use Rattle.rows.specs.Row.{digit_at, column, LegalRow}

-- the places of a mask of w bits keep their bits
masked_bit : (v w i : ℕ) → i < w → bit (bit_and v (2 ^ w - 1)) i ≡ bit v i
masked_bit v w i l = omega (arith, bit_of_and v (2 ^ w - 1) i, low_in w i l, bit_lt v i)

module _ (ws : List ℕ) (x s w : ℕ) where
  -- the block ends within its first word
  pub window_one : w ≤ 64 - s % 64 → bit_and (get_or ws (x + s / 64) 0 / 2 ^ (s % 64)) (2 ^ w - 1) ≡ word_of (λ i. bit_at ws x (s + i)) w
  unfolding bit_at
  window_one h =
      word_of_unique (λ i. bit_at ws x (s + i)) w _ (λ i. bit_at_lt ws x (s + i)) (mask_lt (get_or ws (x + s / 64) 0 / 2 ^ (s % 64)) w)
      (λ i l.
      let d : (s + i) / 64 ≡ s / 64 = omega arith in
      let m : (s + i) % 64 ≡ s % 64 + i = omega arith in
      masked_bit (get_or ws (x + s / 64) 0 / 2 ^ (s % 64)) w i l ∙ bit_shr (get_or ws (x + s / 64) 0) (s % 64) i ∙ rw (d, m))

  -- the block crosses into the next word
  pub window_two : w ≤ 64 → get_or ws (x + s / 64) 0 < 2 ^ 64
      → bit_and (bit_or (get_or ws (x + s / 64) 0 / 2 ^ (s % 64)) (get_or ws (x + s / 64 + 1) 0 * 2 ^ (64 - s % 64) % 2 ^ 64)) (2 ^ w - 1) ≡ word_of (λ i. bit_at ws x (s + i)) w
  unfolding bit_at
  window_two h fits =
      word_of_unique (λ i. bit_at ws x (s + i)) w _ (λ i. bit_at_lt ws x (s + i)) (mask_lt (bit_or (get_or ws (x + s / 64) 0 / 2 ^ (s % 64)) (get_or ws (x + s / 64 + 1) 0 * 2 ^ (64 - s % 64) % 2 ^ 64)) w)
      (λ i l. masked_bit (bit_or (get_or ws (x + s / 64) 0 / 2 ^ (s % 64)) (get_or ws (x + s / 64 + 1) 0 * 2 ^ (64 - s % 64) % 2 ^ 64)) w i l
      ∙ bit_of_or (get_or ws (x + s / 64) 0 / 2 ^ (s % 64)) (get_or ws (x + s / 64 + 1) 0 * 2 ^ (64 - s % 64) % 2 ^ 64) i ∙ go i l (dec_lt i (64 - s % 64)))
    where
      go : (i : ℕ) → i < w → Dec (i < 64 - s % 64)
          → max (bit (get_or ws (x + s / 64) 0 / 2 ^ (s % 64)) i) (bit (get_or ws (x + s / 64 + 1) 0 * 2 ^ (64 - s % 64) % 2 ^ 64) i) ≡ bit (get_or ws (x + (s + i) / 64) 0) ((s + i) % 64)
      go i l (yes k) =
          let d : (s + i) / 64 ≡ s / 64 = omega arith in
          let m : (s + i) % 64 ≡ s % 64 + i = omega arith in
          rw (d, m)
          (omega (
            arith,
            bit_shr (get_or ws (x + s / 64) 0) (s % 64) i,
            bit_mod (get_or ws (x + s / 64 + 1) 0 * 2 ^ (64 - s % 64)) 64 i (omega arith),
            bit_shl_low (get_or ws (x + s / 64 + 1) 0) (64 - s % 64) i k,
            bit_lt (get_or ws (x + s / 64) 0) (s % 64 + i),
          ))
      go i l (no k) =
          let d : (s + i) / 64 ≡ s / 64 + 1 = omega arith in
          let m : (s + i) % 64 ≡ i - (64 - s % 64) = omega arith in
          let a : x + (s / 64 + 1) ≡ x + s / 64 + 1 = omega arith in
          let j : 64 - s % 64 + (i - (64 - s % 64)) ≡ i = omega arith in
          let high : bit (get_or ws (x + s / 64 + 1) 0 * 2 ^ (64 - s % 64)) i ≡ bit (get_or ws (x + s / 64 + 1) 0) (i - (64 - s % 64)) =
          ap (bit (get_or ws (x + s / 64 + 1) 0 * 2 ^ (64 - s % 64))) (sym j) ∙ bit_shl_high (get_or ws (x + s / 64 + 1) 0) (64 - s % 64) (i - (64 - s % 64)) in
          rw (d, m, a)
          (omega (
            arith,
            bit_shr (get_or ws (x + s / 64) 0) (s % 64) i,
            bit_high 64 (get_or ws (x + s / 64) 0) (s % 64 + i) fits (omega arith),
            bit_mod (get_or ws (x + s / 64 + 1) 0 * 2 ^ (64 - s % 64)) 64 i (omega arith),
            high,
            bit_lt (get_or ws (x + s / 64 + 1) 0) (i - (64 - s % 64)),
          ))

-- ---- P and N

column_legal : (ws : List ℕ) (x q j : ℕ) → LegalRow ws x q q → j < 64 * q → bit_at ws (x + q) j ≤ bit_at ws x j
unfolding bit_at LegalRow LegalPair
column_legal ws x q j L h = L (j / 64) (omega arith) (j % 64)

one_is : (u s : ℕ) → u < 2 → s ≤ u → differ u s ≡ is (u + s) 1
unfolding is
one_is = cases (λ (u s : ℕ). differ u s ≡ is (u + s) 1) refl refl refl

two_is : (u s : ℕ) → u < 2 → s ≤ u → s ≡ is (u + s) 2
unfolding is
two_is = cases (λ (u s : ℕ). s ≡ is (u + s) 2) refl refl refl

module _ (ws : List ℕ) (x q s w u t : ℕ) (L : LegalRow ws x q q) (room : s + w ≤ 64 * q) (eu : u ≡ word_of (λ i. bit_at ws x (s + i)) w) (et : t ≡ word_of (λ i. bit_at ws (x + q) (s + i)) w) where
  unit_at : (i : ℕ) → i < w → bit u i ≡ bit_at ws x (s + i)
  unit_at i l = rw eu (word_of_bit (λ i. bit_at ws x (s + i)) w i (λ i. bit_at_lt ws x (s + i)) l)

  sign_at : (i : ℕ) → i < w → bit t i ≡ bit_at ws (x + q) (s + i)
  sign_at i l = rw et (word_of_bit (λ i. bit_at ws (x + q) (s + i)) w i (λ i. bit_at_lt ws (x + q) (s + i)) l)

  unit_small : u < 2 ^ w
  unit_small = rw eu (word_of_lt (λ i. bit_at ws x (s + i)) w (λ i. bit_at_lt ws x (s + i)))

  sign_small : t < 2 ^ w
  sign_small = rw et (word_of_lt (λ i. bit_at ws (x + q) (s + i)) w (λ i. bit_at_lt ws (x + q) (s + i)))

  pub ones_are : bit_xor u t ≡ bits_of 1 (column ws x q) s w
  unfolding bits_of column digit_at digit bit_at
  ones_are =
      word_of_unique (λ i. is (column ws x q (s + i)) 1) w (bit_xor u t) (λ i. omega (arith, is_le (column ws x q (s + i)) 1)) (xor_lt w u t unit_small sign_small)
      (λ i l.
      bit_of_xor u t i ∙ ap₂ differ (unit_at i l) (sign_at i l)
      ∙ one_is (bit_at ws x (s + i)) (bit_at ws (x + q) (s + i)) (bit_at_lt ws x (s + i)) (column_legal ws x q (s + i) L (omega arith)))

  pub twos_are : t ≡ bits_of 2 (column ws x q) s w
  unfolding bits_of column digit_at digit bit_at
  twos_are =
      word_of_unique (λ i. is (column ws x q (s + i)) 2) w t (λ i. omega (arith, is_le (column ws x q (s + i)) 2)) sign_small
      (λ i l.
      sign_at i l
      ∙ two_is (bit_at ws x (s + i)) (bit_at ws (x + q) (s + i)) (bit_at_lt ws x (s + i)) (column_legal ws x q (s + i) L (omega arith)))
