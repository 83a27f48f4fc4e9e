-- The numbers that each request gives, in their order, without their places; and its word fits in 64 bits, whatever it is handed. Combination
-- has `pair-worded`, negation and transpose `single-worded` of crate requests; a tally is judged as a check of one row, a product as an opening.
-- Assumes nothing.
use mathlib.Core.Path.{◌≡◌, refl, ap, ◌∙◌}
use mathlib.Core.Bool.{true, false, ◌||◌}
use mathlib.Core.List.{List, [], ◌∷◌, ◌++◌}
use Prim.Native.Nat.{ℕ, ◌^◌, ◌<◌}
use native.Mathlib.Nat.{mod-lt}
use native.Mathlib.Omega.{arith}
use lib.Dec.{ltb, eqb}
use lib.ListN.{length, get_or}
use borrow.Author.Tests.{ltb-false}
use Rattle.cells.specs.Any.{any}
use Rattle.cells.proofs.AnyLaws.{or_left, or_right}
use Rattle.requests.specs.declared.Size.{Size}
use Rattle.requests.specs.declared.Buffer.TheVariants.{First, Second, Third, Fourth}
use Rattle.requests.specs.Answers.{Fits, Tests, first}
use Rattle.requests.specs.Faults.{place_at, pair_faults, fault_numbers}
use Rattle.requests.specs.Sizes.{over, unfit}
use Rattle.requests.proofs.SizeLaws.{over_rows, over_columns}
use Rattle.requests.proofs.WordLaws.{placed_number, placed_fits}
use Rattle.requests.proofs.NumberLaws.{numbers, numbers_append, faults_numbers, pair_numbers, none_fits, fits_here, fits_append, faults_fit, pair_fit, Worded}
use Rattle.matrix.specs.declared.job.Job.{Job}
use Rattle.matrix.specs.Unpacked.{unlike}
use Rattle.matrix.specs.Check.{check_tests}
use Rattle.matrix.specs.Pack.{above_first, above_at, pack_tests}
use Rattle.matrix.specs.Unpack.{unpack_tests}
use Rattle.matrix.specs.Scaling.{scaling_tests}
use Rattle.matrix.specs.Quote.{quote_tests}
use Rattle.matrix.specs.Job.{meant, unmatched, unwide, table_size, product_size, total_of}
use Rattle.matrix.specs.Misfit.{misfit}
use Rattle.matrix.specs.Total.{total_tests}
use Rattle.matrix.specs.Opening.{opening_tests}
use Rattle.matrix.specs.Turn.{size_a, size_b, cell_tests, found_tests, late_tests, turn_tests}
use Rattle.matrix.proofs.PackLaws.{unlike_long, some_column, row_below}
use Rattle.matrix.proofs.JobLaws.{table_small, product_small}

pub check_worded : (s : Size) (a : List ℕ) → Worded (check_tests s a) ((over s, 1) ∷ (unfit s (length a), 4) ∷ fault_numbers s a)
unfolding check_tests
check_worded s a = record {
  numbers_are = ap (λ (l : Tests). (over s, 1) ∷ (unfit s (length a), 4) ∷ l) (faults_numbers First s a);
  fits = fits_here _ 1 _ (λ _. omega arith) (λ h. fits_here _ 4 _ (λ _. omega arith) (λ _. faults_fit First s a h));
}

pub unpack_worded : (s : Size) (a : List ℕ) (n : ℕ) → Worded (unpack_tests s a n) ((over s, 1) ∷ (unfit s (length a) || unlike s n, 4) ∷ fault_numbers s a)
unfolding unpack_tests
unpack_worded s a n = record {
  numbers_are = ap (λ (l : Tests). (over s, 1) ∷ (unfit s (length a) || unlike s n, 4) ∷ l) (faults_numbers First s a);
  fits = fits_here _ 1 _ (λ _. omega arith) (λ h. fits_here _ 4 _ (λ _. omega arith) (λ _. faults_fit First s a h));
}

pub scaling_worded : (s : Size) (d : ℕ) (a : List ℕ) (n : ℕ) → Worded (scaling_tests s d a n) ((over s, 1) ∷ (unfit s (length a) || unfit s n, 4) ∷ (ltb 2 d, 8) ∷ fault_numbers s a)
unfolding scaling_tests
scaling_worded s d a n = record {
  numbers_are = ap (λ (l : Tests). (over s, 1) ∷ (unfit s (length a) || unfit s n, 4) ∷ (ltb 2 d, 8) ∷ l) (faults_numbers First s a);
  fits = fits_here _ 1 _ (λ _. omega arith) (λ h. fits_here _ 4 _ (λ _. omega arith) (λ _. fits_here _ 8 _ (λ _. omega arith) (λ _. faults_fit First s a h)));
}

-- a digit above 2 lies within the rows and columns
above_fits : (s : Size) (cells : List ℕ) → over s ≡ false → unlike s (length cells) ≡ false → any (length cells) (λ k. ltb 2 (get_or cells k 0)) ≡ true → Fits (place_at First (above_at s.columns cells))
unfolding above_at
above_fits s cells small alike some =
    let long = unlike_long s (length cells) alike in
    record {
      row = omega (arith, row_below cells some s.rows s.columns long _ refl, over_rows s small);
      column = omega (arith, mod-lt (above_first cells) (some_column cells some s.rows s.columns long), over_columns s small);
    }

pub pack_worded : (s : Size) (cells : List ℕ) (n : ℕ)
    → Worded (pack_tests s cells n) ((over s, 1) ∷ (unlike s (length cells) || unfit s n, 4) ∷ (any (length cells) (λ k. ltb 2 (get_or cells k 0)), 8) ∷ [])
unfolding pack_tests
pack_worded s cells n = record {
  numbers_are = rw (placed_number 8 (place_at First (above_at s.columns cells)) (omega arith));
  fits = fits_here _ 1 _ (λ _. omega arith) (λ h.
      fits_here _ 4 _ (λ _. omega arith) (λ k.
      fits_here _ _ [] (λ some. placed_fits 8 _ (omega arith) (above_fits s cells h (or_left (unlike s (length cells)) (unfit s n) k) some)) (λ _. none_fits)));
}

pub quote_worded : (x : Size) (w : ℕ) → Worded (quote_tests x w) ((over x, 1) ∷ (ltb 8 w, 3) ∷ [])
unfolding quote_tests
quote_worded x w = record { numbers_are = refl; fits = fits_here _ 1 _ (λ _. omega arith) (λ _. fits_here _ 3 [] (λ _. omega arith) (λ _. none_fits)) }

pub total_worded : (x : Size) (w : ℕ) (a : List ℕ) → Worded (total_tests x w a) ((over x, 1) ∷ (ltb 8 w, 3) ∷ (unfit x (length a), 4) ∷ fault_numbers x a)
unfolding total_tests
total_worded x w a = record {
  numbers_are = ap (λ (l : Tests). (over x, 1) ∷ (ltb 8 w, 3) ∷ (unfit x (length a), 4) ∷ l) (faults_numbers First x a);
  fits = fits_here _ 1 _ (λ _. omega arith) (λ h. fits_here _ 3 _ (λ _. omega arith) (λ _. fits_here _ 4 _ (λ _. omega arith) (λ _. faults_fit First x a h)));
}

pub opening_worded : (x y : Size) (w : ℕ) (a b : List ℕ) (t p : ℕ)
    → Worded (opening_tests x y w a b t p)
    ((over x || over y, 1) ∷ (unmatched x y, 2) ∷ (ltb 8 w, 3) ∷ (misfit x y (meant x w) (length a) (length b) t p, 4) ∷ (fault_numbers x a ++ fault_numbers y b))
unfolding opening_tests
opening_worded x y w a b t p = record {
  numbers_are =
      ap (λ (l : Tests). (over x || over y, 1) ∷ (unmatched x y, 2) ∷ (ltb 8 w, 3) ∷ (misfit x y (meant x w) (length a) (length b) t p, 4) ∷ l) (pair_numbers First Second x y a b);
  fits = fits_here _ 1 _ (λ _. omega arith) (λ h.
      fits_here _ 2 _ (λ _. omega arith) (λ _.
      fits_here _ 3 _ (λ _. omega arith) (λ _. fits_here _ 4 _ (λ _. omega arith) (λ _. pair_fit First Second x y a b (or_left (over x) (over y) h) (or_right (over x) (over y) h)))));
}

-- the tests of a turn's cells, and of its steps done
abbrev pub cell_numbers : Job → List ℕ → List ℕ → List ℕ → List ℕ → Tests
cell_numbers job a b t p =
    (fault_numbers (size_a job) a ++ fault_numbers (size_b job) b) ++ (fault_numbers (table_size (size_b job) job.width) t ++ fault_numbers (product_size (size_a job) (size_b job)) p)

pub cell_numbers_lem : (job : Job) (a b t p : List ℕ) → numbers (cell_tests job a b t p) ≡ cell_numbers job a b t p
cell_numbers_lem job a b t p =
    numbers_append (pair_faults First Second (size_a job) (size_b job) a b) _
    ∙ rw (pair_numbers First Second (size_a job) (size_b job) a b, pair_numbers Third Fourth (table_size (size_b job) job.width) (product_size (size_a job) (size_b job)) t p)

pub cell_fit : (job : Job) (a b t p : List ℕ) → (over (size_a job) || over (size_b job)) ≡ false → unwide job.width ≡ false → first (cell_tests job a b t p) < 2 ^ 64
cell_fit job a b t p h k =
    let hx = or_left (over (size_a job)) (over (size_b job)) h in
    let hy = or_right (over (size_a job)) (over (size_b job)) h in
    let width = ltb-false 8 job.width (or_right (eqb job.width 0) (ltb 8 job.width) k) in
    fits_append (pair_faults First Second (size_a job) (size_b job) a b) _ (pair_fit First Second (size_a job) (size_b job) a b hx hy)
    (pair_fit Third Fourth (table_size (size_b job) job.width) (product_size (size_a job) (size_b job)) t p (table_small (size_b job) job.width width (over_columns (size_b job) hy)) (product_small (size_a job) (size_b job) (over_rows (size_a job) hx) (over_columns (size_b job) hy)))

pub turn_worded : (job : Job) (a b t p : List ℕ)
    → Worded (turn_tests job a b t p)
    ((over (size_a job) || over (size_b job), 1)
    ∷ (unwide job.width, 3)
    ∷ (misfit (size_a job) (size_b job) job.width (length a) (length b) (length t) (length p), 4)
    ∷ (cell_numbers job a b t p ++ ((ltb (total_of (size_a job) job.width a) job.done, 7) ∷ [])))
unfolding turn_tests found_tests
turn_worded job a b t p = record {
  numbers_are =
      ap (λ (l : Tests). (over (size_a job) || over (size_b job), 1) ∷ (unwide job.width, 3) ∷ (misfit (size_a job) (size_b job) job.width (length a) (length b) (length t) (length p), 4) ∷ l)
      (numbers_append (cell_tests job a b t p) (late_tests job a) ∙ ap (λ (l : Tests). l ++ late_tests job a) (cell_numbers_lem job a b t p));
  fits = fits_here _ 1 _ (λ _. omega arith) (λ h.
      fits_here _ 3 _ (λ _. omega arith) (λ k.
      fits_here _ 4 _ (λ _. omega arith) (λ _. fits_append (cell_tests job a b t p) (late_tests job a) (cell_fit job a b t p h k) (fits_here _ 7 [] (λ _. omega arith) (λ _. none_fits)))));
}
