-- The number of an answer is that of its first test, and no place changes it. Assumes nothing.
use mathlib.Core.Path.{◌≡◌, refl, ap, ap₂, ◌∙◌}
use mathlib.Core.Bool.{Bool, true, false, ◌||◌}
use mathlib.Core.List.{List, [], ◌∷◌, ◌++◌}
use Prim.Native.Nat.{ℕ, ◌+◌, ◌-◌, ◌*◌, ◌^◌, ◌%◌, ◌<◌}
use native.Mathlib.Omega.{arith}
use lib.Dec.{T, ltb}
use lib.ListN.{length}
use Rattle.cells.specs.Fault.{stray_in, padded_in}
use Rattle.cells.proofs.AnyLaws.{or_left, or_right}
use Rattle.cells.proofs.LeastLaws.{least_le}
use Rattle.buffers.specs.Buffer.{planes, unit, sign, cell}
use Rattle.buffers.specs.Fault.{stray_at, padded_at}
use Rattle.buffers.proofs.SizeLaws.{planes_le}
use Rattle.requests.specs.declared.Size.{Size}
use Rattle.requests.specs.declared.Buffer.{Buffer}
use Rattle.requests.specs.declared.Buffer.TheVariants.{First, Second}
use Rattle.requests.specs.Answers.{Fits, number_in, Tests, first}
use Rattle.requests.specs.Exact.{Numbered}
use Rattle.requests.specs.Faults.{place_at, faults, pair_faults, fault_numbers}
use Rattle.requests.specs.Sizes.{over, unfit}
use Rattle.requests.specs.Single.{single_tests}
use Rattle.requests.specs.Pair.{unequal, unfits, pair_tests}
use Rattle.requests.proofs.AnswerLaws.{positive, numbered}
use Rattle.requests.proofs.WordLaws.{placed_number, placed_fits}
use Rattle.requests.proofs.SizeLaws.{over_rows, over_columns}

-- the same tests with their numbers alone
abbrev pub numbers : Tests → Tests
numbers [] = []
numbers ((t, w) ∷ ts) = (t, number_in w) ∷ numbers ts

pub first_number : (ts : Tests) → number_in (first ts) ≡ first (numbers ts)
unfolding first
first_number [] = refl
first_number ((true, w) ∷ ts) = refl
first_number ((false, w) ∷ ts) = first_number ts

-- the lowest byte of a request's word is given as its numbers are: each exactly when its test is the first that holds
pub number_stays : (ts : Tests) (w : ℕ) → T (positive (numbers ts)) → w ≡ first ts → Numbered (numbers ts) (number_in w)
number_stays ts w pos e = numbered (numbers ts) (number_in w) pos (ap (λ (v : ℕ). v % 2 ^ 8) e ∙ first_number ts)

pub numbers_append : (ts us : Tests) → numbers (ts ++ us) ≡ numbers ts ++ numbers us
numbers_append [] us = refl
numbers_append ((t, w) ∷ ts) us = ap (λ (l : Tests). (t, number_in w) ∷ l) (numbers_append ts us)

pub faults_numbers : (n : Buffer) (s : Size) (ws : List ℕ) → numbers (faults n s ws) ≡ fault_numbers s ws
unfolding faults
faults_numbers n s ws = rw (placed_number 5 _ (omega arith), placed_number 6 _ (omega arith))

pub pair_numbers : (n m : Buffer) (x y : Size) (a b : List ℕ) → numbers (pair_faults n m x y a b) ≡ fault_numbers x a ++ fault_numbers y b
pair_numbers n m x y a b = numbers_append (faults n x a) (faults m y b) ∙ ap₂ (λ (k l : Tests). k ++ l) (faults_numbers n x a) (faults_numbers m y b)

-- ---- the word fits in 64 bits

pub none_fits : first [] < 2 ^ 64
unfolding first
none_fits = omega arith

pub fits_here : (t : Bool) (n : ℕ) (ts : Tests) → (t ≡ true → n < 2 ^ 64) → (t ≡ false → first ts < 2 ^ 64) → first ((t, n) ∷ ts) < 2 ^ 64
unfolding first
fits_here true n ts h k = h refl
fits_here false n ts h k = k refl

pub fits_append : (ts us : Tests) → first ts < 2 ^ 64 → first us < 2 ^ 64 → first (ts ++ us) < 2 ^ 64
unfolding first
fits_append [] us h k = k
fits_append ((true, n) ∷ ts) us h k = h
fits_append ((false, n) ∷ ts) us h k = fits_append ts us h k

-- a place lies within the rows and the words of its buffer
module _ (n : Buffer) (s : Size) (ws : List ℕ) (small : over s ≡ false) where
  stray_fits : Fits (place_at n (stray_at s.rows s.columns ws))
  unfolding stray_at
  stray_fits = record {
    row = omega (arith, least_le (λ i. stray_in (unit s.columns ws i) (sign s.columns ws i) s.columns) s.rows, over_rows s small);
    column = omega (arith, least_le (λ j. ltb (unit s.columns ws (stray_at s.rows s.columns ws).0 j) (sign s.columns ws (stray_at s.rows s.columns ws).0 j)) s.columns, over_columns s small);
  }

  padded_fits : Fits (place_at n (padded_at s.rows s.columns ws))
  unfolding padded_at
  padded_fits = record {
    row = omega (arith, least_le (λ i. padded_in (cell s.columns ws i) s.columns (64 * planes s.columns)) s.rows, over_rows s small);
    column = omega (arith, least_le (λ j. ltb 0 (cell s.columns ws (padded_at s.rows s.columns ws).0 (s.columns + j))) (64 * planes s.columns - s.columns), planes_le s.columns (over_columns s small), over_columns s small);
  }

  pub faults_fit : first (faults n s ws) < 2 ^ 64
  unfolding faults
  faults_fit =
      fits_here _ _ _ (λ _. placed_fits 5 _ (omega arith) stray_fits)
      (λ _. fits_here _ _ [] (λ _. placed_fits 6 _ (omega arith) padded_fits) (λ _. none_fits))

pub pair_fit : (n m : Buffer) (x y : Size) (a b : List ℕ) → over x ≡ false → over y ≡ false → first (pair_faults n m x y a b) < 2 ^ 64
pair_fit n m x y a b h k = fits_append (faults n x a) (faults m y b) (faults_fit n x a h) (faults_fit m y b k)

-- a request's list of tests has the numbers of document 01 in its order, each without its place, and the word of its first one fits in 64 bits
pub record Worded (ts plain : Tests) : Type 0 where
  pub numbers_are : numbers ts ≡ plain
  pub fits : first ts < 2 ^ 64

pub single_worded : (s t : Size) (a : List ℕ) (n : ℕ) → Worded (single_tests s t a n) ((over s, 1) ∷ (unfit s (length a) || unfit t n, 4) ∷ fault_numbers s a)
unfolding single_tests
single_worded s t a n = record {
  numbers_are = ap (λ (l : Tests). (over s, 1) ∷ (unfit s (length a) || unfit t n, 4) ∷ l) (faults_numbers First s a);
  fits = fits_here _ 1 _ (λ _. omega arith) (λ h. fits_here _ 4 _ (λ _. omega arith) (λ _. faults_fit First s a h));
}

pub pair_worded : (x y : Size) (d : ℕ) (a b : List ℕ) (n : ℕ)
    → Worded (pair_tests x y d a b n) ((over x || over y, 1) ∷ (unequal x y, 2) ∷ (unfits x y (length a) (length b) n, 4) ∷ (ltb 2 d, 8) ∷ (fault_numbers x a ++ fault_numbers y b))
unfolding pair_tests
pair_worded x y d a b n = record {
  numbers_are = ap (λ (l : Tests). (over x || over y, 1) ∷ (unequal x y, 2) ∷ (unfits x y (length a) (length b) n, 4) ∷ (ltb 2 d, 8) ∷ l) (pair_numbers First Second x y a b);
  fits = fits_here _ 1 _ (λ _. omega arith) (λ h.
      fits_here _ 2 _ (λ _. omega arith) (λ _.
      fits_here _ 4 _ (λ _. omega arith) (λ _. fits_here _ 8 _ (λ _. omega arith) (λ _. pair_fit First Second x y a b (or_left (over x) (over y) h) (or_right (over x) (over y) h)))));
}
