-- The bits of sixty-four columns at once. Assumes nothing.
use mathlib.Core.Path.{◌≡◌, sym, ap, ◌∙◌}
use mathlib.Core.List.{List}
use Prim.Native.Nat.{ℕ, ◌+◌, ◌-◌, ◌*◌, ◌/◌, ◌%◌, ◌^◌, ◌≤◌, ◌<◌, max}
use native.Mathlib.Decide.{dec_lt}
use native.Mathlib.Omega.{arith}
use lib.ListN.{get_or}
use Rattle.cells.specs.Bit.{bit}
use Rattle.cells.proofs.BitLaws.{bit_lt, bit_of_or}
use Rattle.cells.proofs.WordLaws.{bit_shr, bit_mod, bit_high, bit_shl_low, bit_shl_high}
use Rattle.buffers.specs.Buffer.{bit_at}
use Rattle.rows.specs.Wide.{one_word, two_words}

module _ (ws : List ℕ) (x s i : ℕ) where
  abbrev here : ℕ
  here = get_or ws (x + s / 64) 0

  abbrev next : ℕ
  next = get_or ws (x + s / 64 + 1) 0

  -- a column in this word
  pub one_in : s % 64 + i < 64 → bit (one_word ws (x + s / 64) (s % 64)) i ≡ bit_at ws x (s + i)
  unfolding bit_at
  one_in h =
      let d : (s + i) / 64 ≡ s / 64 = omega arith in
      let m : (s + i) % 64 ≡ s % 64 + i = omega arith in
      bit_shr here (s % 64) i ∙ rw (d, m)

  -- a column after it
  pub one_out : here < 2 ^ 64 → 64 ≤ s % 64 + i → bit (one_word ws (x + s / 64) (s % 64)) i ≡ 0
  one_out fits h = bit_shr here (s % 64) i ∙ bit_high 64 here (s % 64 + i) fits h

  pub two_in : here < 2 ^ 64 → 0 < s % 64 → i < 64 → bit (two_words ws (x + s / 64) (s % 64)) i ≡ bit_at ws x (s + i)
  unfolding bit_at
  two_in fits pos l = bit_of_or (here / 2 ^ (s % 64)) (next * 2 ^ (64 - s % 64) % 2 ^ 64) i ∙ go (dec_lt i (64 - s % 64))
    where
      go : Dec (i < 64 - s % 64)
          → max (bit (get_or ws (x + s / 64) 0 / 2 ^ (s % 64)) i) (bit (get_or ws (x + s / 64 + 1) 0 * 2 ^ (64 - s % 64) % 2 ^ 64) i) ≡ bit (get_or ws (x + (s + i) / 64) 0) ((s + i) % 64)
      go (yes k) =
          let d : (s + i) / 64 ≡ s / 64 = omega arith in
          let m : (s + i) % 64 ≡ s % 64 + i = omega arith in
          rw (d, m)
          (omega (
            arith,
            bit_shr (get_or ws (x + s / 64) 0) (s % 64) i,
            bit_mod (get_or ws (x + s / 64 + 1) 0 * 2 ^ (64 - s % 64)) 64 i l,
            bit_shl_low (get_or ws (x + s / 64 + 1) 0) (64 - s % 64) i k,
            bit_lt (get_or ws (x + s / 64) 0) (s % 64 + i),
          ))
      go (no k) =
          let d : (s + i) / 64 ≡ s / 64 + 1 = omega arith in
          let m : (s + i) % 64 ≡ i - (64 - s % 64) = omega arith in
          let a : x + (s / 64 + 1) ≡ x + s / 64 + 1 = omega arith in
          let j : 64 - s % 64 + (i - (64 - s % 64)) ≡ i = omega arith in
          let high : bit (get_or ws (x + s / 64 + 1) 0 * 2 ^ (64 - s % 64)) i ≡ bit (get_or ws (x + s / 64 + 1) 0) (i - (64 - s % 64)) =
          ap (bit (get_or ws (x + s / 64 + 1) 0 * 2 ^ (64 - s % 64))) (sym j) ∙ bit_shl_high (get_or ws (x + s / 64 + 1) 0) (64 - s % 64) (i - (64 - s % 64)) in
          rw (d, m, a)
          (omega (
            arith,
            bit_shr (get_or ws (x + s / 64) 0) (s % 64) i,
            bit_high 64 (get_or ws (x + s / 64) 0) (s % 64 + i) fits (omega arith),
            bit_mod (get_or ws (x + s / 64 + 1) 0 * 2 ^ (64 - s % 64)) 64 i l,
            high,
            bit_lt (get_or ws (x + s / 64 + 1) 0) (i - (64 - s % 64)),
          ))
