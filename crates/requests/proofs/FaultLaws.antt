-- The faults of a buffer, by its rows. Assumes nothing.
use Rattle.std.proofs.Common.{◌≡◌, refl, sym, ◌∙◌, zero-add, Bool, true, false, List, ℕ, ◌+◌, ◌-◌, ◌*◌, ◌^◌, ◌≤◌, ◌<◌, MatchOption, MatchBool, Option, Some, None, length, get_or, arith}
use Rattle.std.specs.List.{range_with_len, AllWithin, HoldsAt}
use Rattle.std.proofs.lemmas.List.FromFn.{length-range_with_len, get_or-range_with_len}
use native.Mathlib.Decide.{dec_lt}
use lib.Bits.{bit_or}
use Rattle.cells.specs.Any.{any, least, First}
use Rattle.cells.specs.Pair.{digit}
use Rattle.cells.proofs.AnyLaws.{any_none, any_next, any_at, any_found}
use Rattle.cells.proofs.LeastLaws.{least_is, least_first}
use Rattle.buffers.specs.Buffer.{planes, wide, bit_at, unit, sign, cell}
use Rattle.buffers.specs.Fault.{stray, padded}
use Rattle.buffers.proofs.SizeLaws.{planes_room}
use Rattle.rows.specs.Row.{digit_at, column}
use Rattle.rows.specs.Fault.{stray_row, padded_row, stray_column, padded_column, Found}
use Rattle.rows.proofs.FaultLaws.{or_none, stray_fewer}
use Rattle.requests.specs.Faults.{row_strays, row_pads, first_stray, first_padding}

-- a row's tests and columns, as words from x on
module _ (ws : List ℕ) (c x i : ℕ) (at : x ≡ i * (2 * planes c)) where
  pub strays_there : stray_row ws x (planes c) c ≡ row_strays c ws i
  unfolding stray_row unit sign wide
  strays_there = rw at

  pub pads_there : padded_row ws x (planes c) c ≡ row_pads c ws i
  unfolding padded_row column digit_at digit cell unit sign bit_at wide
  pads_there = rw at

  pub stray_there : stray_column ws x (planes c) c ≡ first_stray c ws i
  unfolding stray_column unit sign wide
  stray_there = rw at

  pub padded_there : padded_column ws x (planes c) c ≡ first_padding c ws i
  unfolding padded_column column digit_at digit cell unit sign bit_at wide
  padded_there = rw at

-- a test of each of n rows, one after another
pub any_over : (has : ℕ → Bool) (n : ℕ) (r : Bool)
    → MatchBool r ((k : ℕ) × (k < length (range_with_len 0 n)) × HoldsAt (λ i. has i ≡ true) (range_with_len 0 n) k) (AllWithin (λ i. has i ≡ false) (range_with_len 0 n) 0 (length (range_with_len 0 n)))
    → r ≡ any n has
any_over has n true h =
    let below : h.0 < n = omega (arith, length-range_with_len 0 n, h.1) in
    let yes : has (get_or (range_with_len 0 n) h.0 0) ≡ true = h.2 0 in
    sym (any_found has h.0 n below (rw (get_or-range_with_len 0 n h.0 0 below ∙ zero-add h.0) at yes))
any_over has n false h =
    sym (any_none has n (λ k l.
    let no : has (get_or (range_with_len 0 n) k 0) ≡ false = h k 0 (omega arith) (omega (arith, length-range_with_len 0 n)) in
    rw (get_or-range_with_len 0 n k 0 l ∙ zero-add k) at no))

-- a walk from a row on, before which there is no fault, finds the first of all
pub first_on : (has : ℕ → Bool) (from n : ℕ) → any from has ≡ false → (r : Option ℕ)
    → MatchOption r ((k : ℕ) → from ≤ k → k < n → has k ≡ false) (λ i. (from ≤ i) × (i < n) × (has i ≡ true) × ((k : ℕ) → from ≤ k → k < i → has k ≡ false))
    → MatchOption r (any n has ≡ false) (First n has)
first_on has from n before r = go r
  where
    none_to : (m : ℕ) → ((k : ℕ) → from ≤ k → k < m → has k ≡ false) → any m has ≡ false
    none_to m h = any_none has m (λ k l. elim (dec_lt k from) [ yes y ↦ any_at has from before k y | no z ↦ h k (omega arith) l ])

    go : (r : Option ℕ)
        → MatchOption r ((k : ℕ) → from ≤ k → k < n → has k ≡ false) (λ i. (from ≤ i) × (i < n) × (has i ≡ true) × ((k : ℕ) → from ≤ k → k < i → has k ≡ false))
        → MatchOption r (any n has ≡ false) (First n has)
    go None h = none_to n h
    go (Some i) h = record { within = h.1; holds = h.2; none = none_to i h.3 }

pub first_is : (has : ℕ → Bool) (n i : ℕ) → First n has i → least n has ≡ i
first_is has n i h = least_is has n i h.within h.holds h.none

module _ (ws : List ℕ) (r c : ℕ) where
  pub stray_some : (i : ℕ) → First r (row_strays c ws) i → stray r c ws ≡ true
  unfolding stray
  stray_some i h = any_found (row_strays c ws) i r h.within h.holds

  pub padded_some : (i : ℕ) → First r (row_pads c ws) i → padded r c ws ≡ true
  unfolding padded
  padded_some i h = any_found (row_pads c ws) i r h.within h.holds

-- the columns lie in the row
module _ (ws : List ℕ) (c i : ℕ) where
  pub stray_small : row_strays c ws i ≡ true → first_stray c ws i < c
  stray_small h = (least_first _ c h).within

  pub padded_small : row_pads c ws i ≡ true → first_padding c ws i < 64 * planes c
  padded_small h = omega (arith, (least_first _ (64 * planes c - c) h).within)

-- before the first row there is nothing
pub none_stray : (c : ℕ) (ws : List ℕ) → stray 0 c ws ≡ false
unfolding stray any
none_stray c ws = refl

-- the words in which the strays of the rows are gathered
pub strays_next : (ws : List ℕ) (c i x w v : ℕ) → x ≡ i * (2 * planes c) → w < 2 ^ 64 → v < 2 ^ 64 → (w ≡ 0 → stray i c ws ≡ false)
    → Found v (stray_row ws x (planes c) (64 * planes c)) → bit_or w v ≡ 0 → stray (i + 1) c ws ≡ false
unfolding stray
strays_next ws c i x w v at hw hv h F z =
    let both = or_none w v hw hv z in
    any_next _ i (h both.0) (sym (strays_there ws c x i at) ∙ stray_fewer ws x (planes c) c (64 * planes c) (planes_room c) (F.none both.1))
