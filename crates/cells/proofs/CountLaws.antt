-- The count of a word's set bits, as a sum. Assumes nothing.
use Rattle.std.proofs.Common.{◌≡◌, ℕ, zero, suc, ◌+◌, ◌*◌, ◌/◌, ◌%◌, ◌^◌, ◌<◌, ◌≤◌, min, Bool, true, false, eqb, sym, refl, ap, ◌∙◌, one-add, arith, eqb-true}
use borrow.Author.Tests.{eqb-false}
use lib.Arith.{lt-one}
use lib.Count.{ones, ones_step}
use lib.Bits.{bit_and, bit_xor, differ, and_lt, xor_lt}
use Rattle.cells.specs.Bit.{bit}
use Rattle.cells.specs.Counts.{sum, is, count}
use Rattle.cells.specs.Pair.{digit, LegalPair}
use Rattle.cells.proofs.BitLaws.{bit_lt, bit_of_and, bit_of_xor}
use Rattle.cells.proofs.WordLaws.{bit_zero, bit_suc}
use Rattle.cells.proofs.PairLaws.{cases, by_digit}
use Rattle.cells.proofs.SumLaws.{sum_le, sum_same, sum_ext, sum_from}

-- the count of the set bits is the sum of the bits
pub ones_sum : (k w : ℕ) → w < 2 ^ k → ones w ≡ sum 0 k (bit w)
unfolding sum ones
ones_sum zero w h = ap ones (lt-one h)
ones_sum (suc k) w h =
    let low : w % 2 ≡ bit w 0 = sym (bit_zero w) in
    let high : sum 1 k (bit w) ≡ sum 0 k (bit (w / 2)) = sum_from (bit w) 1 k ∙ sum_ext _ _ k 0 (λ t _ _. ap (bit w) (one-add t) ∙ bit_suc w t) in
    omega (arith, ones_step w, ones_sum k (w / 2) (omega arith), low, high)

pub is_le : (a b : ℕ) → is a b ≤ 1
unfolding is
is_le zero zero = omega arith
is_le zero (suc b) = omega arith
is_le (suc a) zero = omega arith
is_le (suc a) (suc b) = is_le a b

-- a digit is just one of the three
pub is_one : (d : ℕ) → d < 3 → is d 0 + is d 1 + is d 2 ≡ 1
unfolding is
is_one = by_digit (λ (d : ℕ). is d 0 + is d 1 + is d 2 ≡ 1) refl refl refl

is_refl : (a : ℕ) → is a a ≡ 1
unfolding is
is_refl zero = refl
is_refl (suc a) = is_refl a

is_other : (a b : ℕ) → (a ≡ b → ⊥) → is a b ≡ 0
unfolding is
is_other zero zero ne = absurd (ne refl)
is_other zero (suc b) ne = refl
is_other (suc a) zero ne = refl
is_other (suc a) (suc b) ne = is_other a b (λ e. ne (ap suc e))

-- where a is b just where p is q
pub is_where : (a b p q : ℕ) → (a ≡ b → p ≡ q) → (p ≡ q → a ≡ b) → is a b ≡ is p q
is_where a b p q to from = go (eqb a b) refl
  where
    go : (t : Bool) → eqb a b ≡ t → is a b ≡ is p q
    go true e = ap (is a) (sym (eqb-true a b e)) ∙ is_refl a ∙ sym (ap (is p) (sym (to (eqb-true a b e))) ∙ is_refl p)
    go false e = is_other a b (eqb-false a b e) ∙ sym (is_other p q (λ h. eqb-false a b e (from h)))

-- ---- the three words whose set bits are the places of a digit under a mask

pub zero_bit : (u s m t : ℕ) → LegalPair u s → bit (bit_and m (bit_xor m u)) t ≡ bit m t * is (digit u s t) 0
unfolding LegalPair digit is
zero_bit u s m t h = simp (bit_of_and, bit_of_xor) (go (bit m t) (bit_lt m t))
  where
    go : (b : ℕ) → b < 2 → min b (differ b (bit u t)) ≡ b * is (bit u t + bit s t) 0
    go zero l = cases (λ (p q : ℕ). min 0 (differ 0 p) ≡ 0 * is (p + q) 0) (omega arith) (omega arith) (omega arith) (bit u t) (bit s t) (bit_lt u t) (h t)
    go (suc zero) l = cases (λ (p q : ℕ). min 1 (differ 1 p) ≡ 1 * is (p + q) 0) (omega arith) (omega arith) (omega arith) (bit u t) (bit s t) (bit_lt u t) (h t)
    go (suc (suc b)) l = absurd (omega arith)

pub one_bit : (u s m t : ℕ) → LegalPair u s → bit (bit_and m (bit_xor u s)) t ≡ bit m t * is (digit u s t) 1
unfolding LegalPair digit is
one_bit u s m t h =
    let l : bit m t < 2 = bit_lt m t in
    simp (bit_of_and, bit_of_xor)
    (cases (λ (p q : ℕ). min (bit m t) (differ p q) ≡ bit m t * is (p + q) 1) (omega arith) (omega arith) (omega arith) (bit u t) (bit s t) (bit_lt u t) (h t))

pub two_bit : (u s m t : ℕ) → LegalPair u s → bit (bit_and m s) t ≡ bit m t * is (digit u s t) 2
unfolding LegalPair digit is
two_bit u s m t h =
    let l : bit m t < 2 = bit_lt m t in
    simp bit_of_and (cases (λ (p q : ℕ). min (bit m t) q ≡ bit m t * is (p + q) 2) (omega arith) (omega arith) (omega arith) (bit u t) (bit s t) (bit_lt u t) (h t))

module _ (u s m : ℕ) (h : LegalPair u s) (hu : u < 2 ^ 64) (hs : s < 2 ^ 64) (hm : m < 2 ^ 64) where
  counted : (d w : ℕ) → w < 2 ^ 64 → ((t : ℕ) → bit w t ≡ bit m t * is (digit u s t) d) → ones w ≡ count d u s m
  unfolding count
  counted d w l e = ones_sum 64 w l ∙ sum_ext (bit w) (λ t. bit m t * is (digit u s t) d) 64 0 (λ t _ _. e t)

  pub zeros_count : ones (bit_and m (bit_xor m u)) ≡ count 0 u s m
  zeros_count = counted 0 _ (and_lt 64 _ _ hm (xor_lt 64 m u hm hu)) (λ t. zero_bit u s m t h)

  pub ones_count : ones (bit_and m (bit_xor u s)) ≡ count 1 u s m
  ones_count = counted 1 _ (and_lt 64 _ _ hm (xor_lt 64 u s hu hs)) (λ t. one_bit u s m t h)

  pub twos_count : ones (bit_and m s) ≡ count 2 u s m
  twos_count = counted 2 _ (and_lt 64 _ _ hm hs) (λ t. two_bit u s m t h)

-- no digit stands in more than the 64 places
pub count_le : (d u s m : ℕ) → count d u s m ≤ 64
unfolding count
count_le d u s m =
    omega (arith, sum_le (λ t. bit m t * is (digit u s t) d) (λ _. 1) (λ t. go (bit m t) (bit_lt m t) (is (digit u s t) d) (is_le (digit u s t) d)) 64 0, sum_same 1 64 0)
  where
    go : (a : ℕ) → a < 2 → (b : ℕ) → b ≤ 1 → a * b ≤ 1
    go zero l b k = omega arith
    go (suc zero) l b k = omega arith
    go (suc (suc a)) l b k = absurd (omega arith)
