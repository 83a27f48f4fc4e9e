-- The numbers that each call of the C face gives, in their order, without their places; and its word fits in 64 bits, whatever it is handed. Assumes
-- nothing.
use mathlib.Core.Path.{refl, ap, ◌∙◌}
use mathlib.Core.List.{List, [], ◌++◌}
use Prim.Native.Nat.{ℕ}
use native.Mathlib.Omega.{arith}
use lib.ListN.{length}
use Rattle.cells.proofs.AnyLaws.{or_left, or_right}
use Rattle.requests.specs.declared.Size.{Size}
use Rattle.requests.specs.declared.Buffer.TheVariants.{First, Second}
use Rattle.requests.specs.Answers.{Tests}
use Rattle.requests.specs.Faults.{fault_numbers}
use Rattle.requests.specs.Sizes.{over}
use Rattle.requests.proofs.NumberLaws.{numbers_append, faults_numbers, pair_numbers, none_fits, fits_here, fits_append, faults_fit, pair_fit, Worded}
use Rattle.matrix.specs.Turn.{cell_tests, late_tests}
use Rattle.matrix.specs.Record.{job_in}
use Rattle.matrix.proofs.Numbers.{cell_numbers, cell_numbers_lem, cell_fit}
use Rattle.wordbytes.specs.Bytes.{words_in}
use Rattle.cface.specs.Check.{check_sizes, check_face_tests}
use Rattle.cface.specs.Negation.{negation_sizes, negation_face_tests}
use Rattle.cface.specs.Pair.{pair_sizes, pair_face_tests}
use Rattle.cface.specs.Count.{count_tests}
use Rattle.cface.specs.Product.{product_sizes, product_face_tests}
use Rattle.cface.specs.Open.{open_sizes, open_face_tests}
use Rattle.cface.specs.Turn.{turn_sizes, turn_face_tests}

-- the tests of sizes, width and lengths have no places, and stand first

pub check_worded : (s : Size) (a : List ℕ) → Worded (check_face_tests s a) (check_sizes s (length a) ++ fault_numbers s (words_in a))
unfolding check_face_tests check_sizes
check_worded s a = record {
  numbers_are = ap (λ (l : Tests). check_sizes s (length a) ++ l) (faults_numbers First s (words_in a));
  fits = fits_here _ 1 _ (λ _. omega arith) (λ h. fits_here _ 11 _ (λ _. omega arith) (λ _. fits_here _ 4 _ (λ _. omega arith) (λ _. faults_fit First s (words_in a) h)));
}

pub negation_worded : (s : Size) (a : List ℕ) (n : ℕ) → Worded (negation_face_tests s a n) (negation_sizes s (length a) n ++ fault_numbers s (words_in a))
unfolding negation_face_tests negation_sizes
negation_worded s a n = record {
  numbers_are = ap (λ (l : Tests). negation_sizes s (length a) n ++ l) (faults_numbers First s (words_in a));
  fits = fits_here _ 1 _ (λ _. omega arith) (λ h. fits_here _ 11 _ (λ _. omega arith) (λ _. fits_here _ 4 _ (λ _. omega arith) (λ _. faults_fit First s (words_in a) h)));
}

-- of a combination
pub pair_worded : (x y : Size) (d : ℕ) (a b : List ℕ) (n : ℕ)
    → Worded (pair_face_tests x y d a b n) (pair_sizes x y d (length a) (length b) n ++ (fault_numbers x (words_in a) ++ fault_numbers y (words_in b)))
unfolding pair_face_tests pair_sizes
pair_worded x y d a b n = record {
  numbers_are = ap (λ (l : Tests). pair_sizes x y d (length a) (length b) n ++ l) (pair_numbers First Second x y (words_in a) (words_in b));
  fits = fits_here _ 1 _ (λ _. omega arith) (λ h.
      fits_here _ 11 _ (λ _. omega arith) (λ _.
      fits_here _ 2 _ (λ _. omega arith) (λ _.
      fits_here _ 4 _ (λ _. omega arith) (λ _.
      fits_here _ 8 _ (λ _. omega arith) (λ _. pair_fit First Second x y (words_in a) (words_in b) (or_left (over x) (over y) h) (or_right (over x) (over y) h))))));
}

pub product_worded : (x y : Size) (a b : List ℕ) (n : ℕ)
    → Worded (product_face_tests x y a b n) (product_sizes x y (length a) (length b) n ++ (fault_numbers x (words_in a) ++ fault_numbers y (words_in b)))
unfolding product_face_tests product_sizes
product_worded x y a b n = record {
  numbers_are = ap (λ (l : Tests). product_sizes x y (length a) (length b) n ++ l) (pair_numbers First Second x y (words_in a) (words_in b));
  fits = fits_here _ 1 _ (λ _. omega arith) (λ h.
      fits_here _ 11 _ (λ _. omega arith) (λ _.
      fits_here _ 2 _ (λ _. omega arith) (λ _. fits_here _ 4 _ (λ _. omega arith) (λ _. pair_fit First Second x y (words_in a) (words_in b) (or_left (over x) (over y) h) (or_right (over x) (over y) h)))));
}

-- of width and quote
pub count_worded : (x : Size) (w n : ℕ) → Worded (count_tests x w n) (count_tests x w n)
unfolding count_tests
count_worded x w n = record {
  numbers_are = refl;
  fits = fits_here _ 1 _ (λ _. omega arith) (λ _. fits_here _ 11 _ (λ _. omega arith) (λ _. fits_here _ 3 _ (λ _. omega arith) (λ _. fits_here _ 4 [] (λ _. omega arith) (λ _. none_fits))));
}

pub open_worded : (x y : Size) (w k : ℕ) (a b : List ℕ) (t p : ℕ)
    → Worded (open_face_tests x y w k a b t p) (open_sizes x y w k (length a) (length b) t p ++ (fault_numbers x (words_in a) ++ fault_numbers y (words_in b)))
unfolding open_face_tests open_sizes
open_worded x y w k a b t p = record {
  numbers_are = ap (λ (l : Tests). open_sizes x y w k (length a) (length b) t p ++ l) (pair_numbers First Second x y (words_in a) (words_in b));
  fits = fits_here _ 4 _ (λ _. omega arith) (λ _.
      fits_here _ 1 _ (λ _. omega arith) (λ h.
      fits_here _ 11 _ (λ _. omega arith) (λ _.
      fits_here _ 2 _ (λ _. omega arith) (λ _.
      fits_here _ 3 _ (λ _. omega arith) (λ _.
      fits_here _ 4 _ (λ _. omega arith) (λ _. pair_fit First Second x y (words_in a) (words_in b) (or_left (over x) (over y) h) (or_right (over x) (over y) h)))))));
}

pub turn_worded : (r a b t p : List ℕ)
    → Worded (turn_face_tests r a b t p)
    (turn_sizes (job_in (words_in r)) (length r) (length a) (length b) (length t) (length p)
    ++ (cell_numbers (job_in (words_in r)) (words_in a) (words_in b) (words_in t) (words_in p) ++ late_tests (job_in (words_in r)) (words_in a)))
unfolding turn_face_tests turn_sizes
turn_worded r a b t p =
    let job = job_in (words_in r) in
    record {
      numbers_are =
          ap (λ (l : Tests). turn_sizes job (length r) (length a) (length b) (length t) (length p) ++ l)
          (numbers_append (cell_tests job (words_in a) (words_in b) (words_in t) (words_in p)) (late_tests job (words_in a)) ∙ ap (λ (l : Tests). l ++ late_tests job (words_in a)) (cell_numbers_lem job (words_in a) (words_in b) (words_in t) (words_in p)));
      fits = fits_here _ 4 _ (λ _. omega arith) (λ _.
          fits_here _ 1 _ (λ _. omega arith) (λ h.
          fits_here _ 11 _ (λ _. omega arith) (λ _.
          fits_here _ 3 _ (λ _. omega arith) (λ k.
          fits_here _ 4 _ (λ _. omega arith) (λ _.
          fits_append (cell_tests job (words_in a) (words_in b) (words_in t) (words_in p)) (late_tests job (words_in a)) (cell_fit job (words_in a) (words_in b) (words_in t) (words_in p) h k) (fits_here _ 7 [] (λ _. omega arith) (λ _. none_fits)))))));
    }
