-- The tests of a request over two matrices and a digit. Assumes nothing.
use mathlib.Core.Path.{◌≡◌}
use mathlib.Core.Bool.{false, not, ◌||◌}
use mathlib.Core.List.{List}
use Prim.Native.Nat.{ℕ, ◌≤◌, ◌<◌}
use native.Mathlib.Omega.{arith}
use lib.Dec.{T, eqb}
use lib.ListN.{length}
use borrow.Author.Tests.{eqb-true, not-false, ltb-false}
use Rattle.cells.proofs.AnyLaws.{or_left, or_right}
use Rattle.requests.specs.declared.Size.{Size}
use Rattle.requests.specs.declared.Buffer.{Buffer}
use Rattle.requests.specs.declared.Buffer.TheVariants.{First, Second}
use Rattle.buffers.specs.Buffer.{words, Legal}
use Rattle.requests.specs.Answers.{first}
use Rattle.requests.specs.Sizes.{over, unfit}
use Rattle.requests.specs.Faults.{faults, pair_faults}
use Rattle.requests.specs.Pair.{unequal, unfits, pair_tests}
use Rattle.requests.proofs.SizeLaws.{over_rows, over_columns, unfit_long}
use Rattle.requests.specs.Exact.{None}
use Rattle.requests.proofs.AnswerLaws.{positive, positive_append, first_none}
use Rattle.requests.proofs.WordLaws.{placed_positive}
use Rattle.buffers.proofs.BufferLaws.{legal_tests}

pub faults_positive : (n : Buffer) (s : Size) (ws : List ℕ) → T (positive (faults n s ws))
unfolding faults
faults_positive n s ws = rw (placed_positive 5 _, placed_positive 6 _) tt

pub pair_positive : (n m : Buffer) (x y : Size) (a b : List ℕ) → T (positive (pair_faults n m x y a b))
pair_positive n m x y a b = positive_append (faults n x a) (faults m y b) (faults_positive n x a) (faults_positive m y b)

module _ (x y : Size) (l m n : ℕ) (h : unfits x y l m n ≡ false) where
  pub fits_a : unfit x l ≡ false
  unfolding unfits
  fits_a = or_left (unfit x l) (unfit y m || unfit x n) h

  pub fits_b : unfit y m ≡ false
  unfolding unfits
  fits_b = or_left (unfit y m) (unfit x n) (or_right (unfit x l) (unfit y m || unfit x n) h)

  pub fits_out : unfit x n ≡ false
  unfolding unfits
  fits_out = or_right (unfit y m) (unfit x n) (or_right (unfit x l) (unfit y m || unfit x n) h)

module _ (x y : Size) (h : unequal x y ≡ false) where
  pub same_rows : x.rows ≡ y.rows
  unfolding unequal
  same_rows = eqb-true _ _ (not-false (eqb x.rows y.rows) (or_left (not (eqb x.rows y.rows)) (not (eqb x.columns y.columns)) h))

  pub same_columns : x.columns ≡ y.columns
  unfolding unequal
  same_columns = eqb-true _ _ (not-false (eqb x.columns y.columns) (or_right (not (eqb x.rows y.rows)) (not (eqb x.columns y.columns)) h))

-- what no test's holding says
pub record Ready (x y : Size) (d : ℕ) (a b : List ℕ) (n : ℕ) : Type 0 where
  pub rows : x.rows ≤ 1024
  pub columns : x.columns ≤ 1024
  pub same : (x.rows ≡ y.rows) × (x.columns ≡ y.columns)
  pub digit : d < 3
  pub left : Legal x.rows x.columns a
  pub right : Legal x.rows x.columns b
  pub room : n ≡ words x.rows x.columns

pub ready : (x y : Size) (d : ℕ) (a b : List ℕ) (n : ℕ) → first (pair_tests x y d a b n) ≡ 0 → Ready x y d a b n
unfolding pair_tests faults
ready x y d a b n z =
    let t : None (pair_tests x y d a b n) = first_none (pair_tests x y d a b n) (pair_positive First Second x y a b) z in
    let small = or_left (over x) (over y) t.0 in
    let f = t.1.1.0 in
    let small-digit : d ≤ 2 = ltb-false 2 d t.1.1.1.0 in
    let la = unfit_long x (length a) (fits_a x y (length a) (length b) n f) in
    let lb = unfit_long y (length b) (fits_b x y (length a) (length b) n f) in
    let er = same_rows x y t.1.0 in
    let ec = same_columns x y t.1.0 in
    record {
      rows = over_rows x small;
      columns = over_columns x small;
      same = (er, ec);
      digit = omega arith;
      left = legal_tests _ _ a la t.1.1.1.1.0 t.1.1.1.1.1.0;
      right = rw (er, ec) (legal_tests _ _ b lb t.1.1.1.1.1.1.0 t.1.1.1.1.1.1.1.0);
      room = unfit_long x n (fits_out x y (length a) (length b) n f);
    }
