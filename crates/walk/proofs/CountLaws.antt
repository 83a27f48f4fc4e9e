-- Counts of steps from the bits of A's rows. Assumes nothing.
use mathlib.Core.Path.{◌≡◌, sym, ap, ap₂, ◌∙◌}
use mathlib.Core.List.{List}
use Prim.Native.Nat.{ℕ, suc, ◌+◌, ◌-◌, ◌*◌, ◌/◌, ◌%◌, ◌^◌, ◌≤◌, ◌<◌, min}
use native.Mathlib.Numerals.{add-one}
use native.Mathlib.Omega.{arith}
use native.Mathlib.Decide.{dec_lt}
use native.Mathlib.Nat.{suc-mul, le-div_iff_mul-le}
use Rattle.std.specs.Int.{div_ceil}
use Rattle.std.proofs.lemmas.Grind.{div_ceil_times}
use borrow.Author.Count.{below_more}
use lib.Pow.{pow_mono}
use lib.Dec.{eqb}
use mathlib.Core.Bool.{true, false}
use borrow.Author.Tests.{eq-eqb, ne_eqb}
use Rattle.cells.specs.Counts.{sum, bits_of}
use Rattle.cells.specs.Digit.{Matrix}
use Rattle.buffers.specs.Buffer.{planes, cell}
use Rattle.rows.specs.Row.{column}
use Rattle.rows.proofs.MatrixLaws.{column_cell}
use Rattle.steps.specs.StepList.{P, N, blocks, block_width}
use Rattle.steps.specs.Count.{total, row_count, block_count, count_at}
use Rattle.walk.specs.declared.place.Standing.{Standing}
use Rattle.walk.specs.Place.{StandsAt}
use Rattle.steps.proofs.Counts.{row_le, total_counts}
use Rattle.steps.proofs.Most.{total_most}
use Rattle.cells.proofs.SumLaws.{sum_none, sum_last, sum_le, sum_more, sum_mono, sum_same}

-- the bits that are read of a row of a matrix are P and N
pub bits_are : (d l i q s w : ℕ) (a : List ℕ) → q ≡ planes l → bits_of d (column a (i * (2 * q)) q) s w ≡ bits_of d (cell l a i) s w
bits_are d l i q s w a e = ap (λ (row : ℕ → ℕ). bits_of d row s w) (λ k j. column_cell l i q j a e k)

pub count_none : (m : ℕ) (A : Matrix) (s w : ℕ) → 2 ^ w - 1 ≡ (2 ^ w - 1) + sum 0 0 (row_count A s w)
count_none m A s w = omega (arith, sum_none (row_count A s w) 0)

pub count_more : (A : Matrix) (s w i n p q : ℕ) → n ≡ (2 ^ w - 1) + sum 0 i (row_count A s w) → p ≡ min 1 (P A s w i) → q ≡ min 1 (N A s w i)
    → n + (p + q) ≡ (2 ^ w - 1) + sum 0 (i + 1) (row_count A s w)
unfolding row_count
count_more A s w i n p q e ep eq = rw (add-one i) (omega (arith, sum_last (row_count A s w) i))

pub count_all : (A : Matrix) (s w i m n : ℕ) → i ≡ m → n ≡ (2 ^ w - 1) + sum 0 i (row_count A s w) → n ≡ block_count m A s w
unfolding block_count
count_all A s w i m n e h = rw e at h

-- ---- small numbers

pub pow_small : (w : ℕ) → w ≤ 8 → 2 ^ w ≤ 256
pow_small w h = let e : 2 ^ w ≤ 2 ^ 8 = pow_mono h in omega arith

pub shift_one : (w : ℕ) → w ≤ 8 → 1 * 2 ^ w % 18446744073709551616 ≡ 2 ^ w
shift_one w h = omega (arith, pow_small w h)

pub count_small : (A : Matrix) (s w i : ℕ) → w ≤ 8 → (2 ^ w - 1) + sum 0 i (row_count A s w) ≤ 255 + 2 * i
count_small A s w i h = omega (arith, pow_small w h, sum_le (row_count A s w) (λ _. 2) (λ i. two i) i 0, sum_same 2 i 0)
  where
    two : (i : ℕ) → row_count A s w i ≤ 2
    two i = omega (arith, row_le A s w i)

-- ---- blocks

-- the blocks are l / k rounded up
pub rounded_up : (l k n : ℕ) → 0 < k → n ≡ div_ceil l k → n ≡ blocks l k
unfolding blocks
rounded_up l k n pos e =
    let room = div_ceil_times l k pos in
    let same : n * k ≡ div_ceil l k * k = ap (λ (x : ℕ). x * k) e in
    go (dec_lt n ((l + (k - 1)) / k)) ((le-div_iff_mul-le pos).1 (omega (arith, same, room.0))) (λ h. omega (arith, (le-div_iff_mul-le pos).0 h, suc-mul n k, same, room.1))
  where
    go : Dec (n < (l + (k - 1)) / k) → n ≤ (l + (k - 1)) / k → (suc n ≤ (l + (k - 1)) / k → ⊥) → n ≡ (l + (k - 1)) / k
    go (yes h) over less = absurd (less h)
    go (no h) over less = omega arith

module _ (m l k : ℕ) (A : Matrix) where
  pub place_more : (b total c w : ℕ) → w ≡ block_width l k b → total ≡ sum 0 b (count_at m l k A) → c ≡ block_count m A (b * k) w → total + c ≡ sum 0 (b + 1) (count_at m l k A)
  place_more b n c w ew en ec = rw (add-one b) (sym (sum_last (count_at m l k A) b ∙ ap₂ ◌+◌ (sym en) (ap (block_count m A (b * k)) (sym ew) ∙ sym ec)))

  -- the steps before the h blocks from block b on, and theirs
  pub place_many : (b h n c : ℕ) → n ≡ sum 0 b (count_at m l k A) → c ≡ sum b h (count_at m l k A) → n + c ≡ sum 0 (b + h) (count_at m l k A)
  place_many b h n c en ec = ap₂ ◌+◌ en ec ∙ sym (sum_more (count_at m l k A) b h)

  pub place_small : (b n : ℕ) → m ≤ 1024 → l ≤ 1024 → k ≤ 8 → b ≤ blocks l k → n ≡ sum 0 b (count_at m l k A) → n ≤ 1050112
  place_small b n hm hl hk hb en = omega (arith, en, sum_mono (count_at m l k A) b (blocks l k) hb, total_counts m l k A, total_most m l k A hm hl hk)

  -- no block up to b that comes after `block` begins at or before the steps done
  abbrev pub Last : ℕ → ℕ → ℕ → Type 0
  Last done block b = (c : ℕ) → c < b + 1 → block < c → done < sum 0 c (count_at m l k A)

  pub last_still : (done block b : ℕ) → Last done block b → done < sum 0 (b + 1) (count_at m l k A) → Last done block (b + 1)
  last_still done block b all here = below_more (λ c. block < c → done < sum 0 c (count_at m l k A)) (b + 1) all (λ _. here)

  pub place_all : (b n : ℕ) → b ≡ blocks l k → n ≡ sum 0 b (count_at m l k A) → n ≡ total m l k A
  place_all b n eb en = (rw eb at en) ∙ sym (total_counts m l k A)

  -- of the steps done, those after the place's block began are fewer than its own
  pub skip_within : (done : ℕ) (at : Standing) → StandsAt m l k A done at → at.block < blocks l k → done - at.before < count_at m l k A at.block
  skip_within done at S h =
      let e = S.last (suc at.block) (omega arith) (omega arith) in
      omega (arith, e, S.before_is, S.begun, sum_last (count_at m l k A) at.block)

-- ---- whether these steps are all

pub ends_not : (steps total : ℕ) → steps < total → false ≡ eqb steps total
ends_not steps total h = sym (ne_eqb steps total (λ e. omega arith))

pub ends_here : (steps total : ℕ) → steps ≡ total → true ≡ eqb steps total
ends_here steps total e = sym (eq-eqb steps total e)
