-- The columns of a row that hold a digit, counted word by word. Assumes nothing.
use mathlib.Core.Path.{◌≡◌, sym, ap, ap₂, ◌∙◌}
use mathlib.Core.List.{List}
use Prim.Native.Nat.{ℕ, zero, suc, ◌+◌, ◌-◌, ◌*◌, ◌/◌, ◌%◌, ◌^◌, ◌≤◌, ◌<◌, min}
use native.Mathlib.Omega.{arith}
use lib.ListN.{get_or}
use Rattle.cells.specs.Bit.{bit}
use Rattle.cells.specs.Counts.{sum, is, count}
use Rattle.cells.specs.Pair.{digit}
use Rattle.cells.proofs.MaskLaws.{low_in, low_out}
use Rattle.cells.proofs.SumLaws.{sum_more, sum_none, sum_le, sum_same, sum_ext, sum_from}
use Rattle.cells.proofs.CountLaws.{is_le, is_one}
use Rattle.buffers.specs.Buffer.{planes}
use Rattle.buffers.proofs.SizeLaws.{planes_room, planes_tight}
use Rattle.rows.specs.Row.{digit_at, column}
use Rattle.rows.specs.Tally.{columns_with}

-- column 64 p + t is place t of pair p
pub column_word : (ws : List ℕ) (x q p t : ℕ) → t < 64 → column ws x q (64 * p + t) ≡ digit (get_or ws (x + p) 0) (get_or ws (x + p + q) 0) t
unfolding column digit_at
column_word ws x q p t l =
    let d : (64 * p + t) / 64 ≡ p = omega arith in
    let m : (64 * p + t) % 64 ≡ t = omega arith in
    let e : x + q + p ≡ x + p + q = omega arith in
    rw (d, m, e)

-- the count under a mask of the lowest n places is the sum over them
count_low : (d u s n : ℕ) → n ≤ 64 → count d u s (2 ^ n - 1) ≡ sum 0 n (λ t. is (digit u s t) d)
unfolding count
count_low d u s n h =
    let f : ℕ → ℕ = λ t. bit (2 ^ n - 1) t * is (digit u s t) d in
    let e : n + (64 - n) ≡ 64 = omega arith in
    ap (λ (k : ℕ). sum 0 k f) (sym e) ∙ sum_more f n (64 - n)
    ∙ omega (
      arith,
      sum_ext f (λ t. is (digit u s t) d) n 0 (λ t _ l. rw (low_in n t (omega arith)) (omega arith)),
      sum_ext f (λ t. 0) (64 - n) n (λ t l _. rw (low_out n t l) (omega arith)),
      sum_same 0 (64 - n) n,
    )

module _ (ws : List ℕ) (x q c : ℕ) (row : q ≡ planes c) where
  pub tally_none : (d : ℕ) → 0 ≡ columns_with d (column ws x q) (min c (64 * 0))
  unfolding columns_with
  tally_none d =
      let e : min c (64 * 0) ≡ 0 = omega arith in
      rw e (sym (sum_none (λ j. is (column ws x q j) d) 0))

  -- pair p more, of whose places n are columns: m is their mask
  pub tally_more : (d p u s n m k g : ℕ) → p < q → n ≡ min 64 (c - 64 * p) → m ≡ 2 ^ n - 1 → u ≡ get_or ws (x + p) 0 → s ≡ get_or ws (x + p + q) 0
      → k ≡ columns_with d (column ws x q) (min c (64 * p)) → g ≡ count d u s m → k + g ≡ columns_with d (column ws x q) (min c (64 * (p + 1)))
  unfolding columns_with
  tally_more d p u s n m k g l en em eu es ek eg =
      let f : ℕ → ℕ = λ j. is (column ws x q j) d in
      let a : min c (64 * (p + 1)) ≡ 64 * p + n = omega (arith, planes_room c, planes_tight c) in
      let b : min c (64 * p) ≡ 64 * p = omega (arith, planes_room c, planes_tight c) in
      let now : k ≡ sum 0 (64 * p) f = ek ∙ ap (λ (i : ℕ). sum 0 i f) b in
      let new : g ≡ sum (64 * p) n f =
      eg ∙ ap (count d u s) em ∙ count_low d u s n (omega arith)
      ∙ sum_ext (λ t. is (digit u s t) d) (λ t. f (64 * p + t)) n 0 (λ t _ h. rw (column_word ws x q p t (omega arith), eu, es))
      ∙ sym (sum_from f (64 * p) n) in
      ap₂ ◌+◌ now new ∙ sym (ap (λ (i : ℕ). sum 0 i f) a ∙ sum_more f (64 * p) n)

  pub tally_all : (d p k : ℕ) → q ≤ p → k ≡ columns_with d (column ws x q) (min c (64 * p)) → k ≡ columns_with d (column ws x q) c
  tally_all d p k h e =
      let a : min c (64 * p) ≡ c = omega (arith, planes_room c) in
      rw a at e

-- no more columns than there are hold a digit
pub columns_le : (d : ℕ) (row : ℕ → ℕ) (c : ℕ) → columns_with d row c ≤ c
unfolding columns_with
columns_le d row c = omega (arith, sum_le (λ j. is (row j) d) (λ _. 1) (λ j. is_le (row j) d) c 0, sum_same 1 c 0)

pub columns_same : (d : ℕ) (row row' : ℕ → ℕ) (c : ℕ) → ((j : ℕ) → j < c → row j ≡ row' j) → columns_with d row c ≡ columns_with d row' c
unfolding columns_with
columns_same d row row' c e = sum_ext _ _ c 0 (λ j _ l. ap (λ (n : ℕ). is n d) (e j (omega arith)))

sums_all : (row : ℕ → ℕ) (n s : ℕ) → ((j : ℕ) → j < s + n → row j < 3) → sum s n (λ j. is (row j) 0) + sum s n (λ j. is (row j) 1) + sum s n (λ j. is (row j) 2) ≡ n
unfolding sum
sums_all row zero s small = omega arith
sums_all row (suc n) s small = omega (arith, is_one (row s) (small s (omega arith)), sums_all row n (suc s) (λ j l. small j (omega arith)))

-- each column holds just one of the three digits
pub columns_all : (row : ℕ → ℕ) (c : ℕ) → ((j : ℕ) → j < c → row j < 3) → columns_with 0 row c + columns_with 1 row c + columns_with 2 row c ≡ c
unfolding columns_with
columns_all row c small = sums_all row c 0 (λ j l. small j (omega arith))
