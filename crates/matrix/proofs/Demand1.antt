-- Demand 1: every request ends with an answer, and its statement says which. For each request: a number is given exactly when its test is
-- the first in the order that holds, and then every buffer holds what it held; done is given exactly when no test holds. Assumes nothing.
use mathlib.Core.Path.{◌≡◌}
use mathlib.Core.Bool.{Bool, false}
use mathlib.Core.List.{List, [], ◌∷◌}
use Prim.Native.Nat.{ℕ, ◌^◌}
use Rattle.std.specs.Prelude.{Result}
use lib.ListN.{length}
use Rattle.buffers.specs.Buffer.{cell, encode}
use Rattle.requests.specs.declared.Size.{Size}
use Rattle.requests.specs.declared.Reason.{Reason}
use Rattle.requests.specs.Answers.{Answer, word, held, told}
use Rattle.requests.specs.Faults.{faults}
use Rattle.requests.specs.Single.{single_tests}
use Rattle.requests.specs.Pair.{pair_tests}
use Rattle.matrix.specs.declared.tally.Tallied.{Tallied}
use Rattle.matrix.specs.Check.{check_tests, check_means}
use Rattle.matrix.specs.Pack.{pack_of, pack_tests, pack_means}
use Rattle.matrix.specs.Unpack.{unpack_of, unpack_tests, unpack_means}
use Rattle.matrix.specs.Combination.{combination_of, combination_means}
use Rattle.matrix.specs.Negation.{negation_of, negation_means}
use Rattle.matrix.specs.Scaling.{scaling_of, scaling_tests, scaling_means}
use Rattle.matrix.specs.Transpose.{transposed_size, transpose_of, transpose_means}
use Rattle.rows.specs.Tally.{tally_row}
use Rattle.matrix.specs.Tally.{balanced, tally_told, tally_means}
use Rattle.matrix.specs.declared.job.Job.{Job}
use Rattle.matrix.specs.declared.turn.Turned.{Turned}
use Rattle.matrix.specs.Job.{meant, total_of}
use Rattle.matrix.specs.Quote.{quote_tests, quote_means}
use Rattle.matrix.specs.Width.{width_means}
use Rattle.matrix.specs.Total.{total_tests, total_means}
use Rattle.matrix.specs.Opening.{opened, opening_tests, no_job, opened_of, opening_means}
use Rattle.matrix.specs.Turn.{turned, found_tests, turn_tests, turned_of, turn_means}
use Rattle.matrix.specs.Product.{end_of, product_means}
use Rattle.steps.specs.Count.{quote}
use Rattle.requests.specs.declared.Buffer.TheVariants.{First, Second}
use Rattle.requests.specs.Exact.{Numbered, Exact}
use Rattle.requests.proofs.PairLaws.{faults_positive, pair_positive}
use Rattle.requests.proofs.AnswerLaws.{numbered, exact}
use Rattle.matrix.proofs.PackLaws.{pack_positive}
use Rattle.matrix.proofs.JobLaws.{turn_positive}

pub check_exact : (s : Size) (a : List ℕ) (r : Answer) → word r ≡ check_means s a → Numbered (check_tests s a) (word r)
unfolding check_means check_tests faults
check_exact s a r says = numbered (check_tests s a) (word r) (faults_positive First s a) says

pub combination_exact : (x y : Size) (d : ℕ) (a b out : List ℕ) (r : Answer) (o : List ℕ) → (word r, o) ≡ combination_means x y d a b out
    → Exact (pair_tests x y d a b (length out)) out (combination_of d x.rows x.columns a b) (word r) o
unfolding combination_means pair_tests faults
combination_exact x y d a b out r o says = exact (pair_tests x y d a b (length out)) out (combination_of d x.rows x.columns a b) (word r) o (pair_positive First Second x y a b) says

pub negation_exact : (s : Size) (a out : List ℕ) (r : Answer) (o : List ℕ) → (word r, o) ≡ negation_means s a out → Exact (single_tests s s a (length out)) out (negation_of s.rows s.columns a) (word r) o
unfolding negation_means single_tests faults
negation_exact s a out r o says = exact (single_tests s s a (length out)) out (negation_of s.rows s.columns a) (word r) o (faults_positive First s a) says

pub scaling_exact : (s : Size) (d : ℕ) (a out : List ℕ) (r : Answer) (o : List ℕ) → (word r, o) ≡ scaling_means s d a out → Exact (scaling_tests s d a (length out)) out (scaling_of d s.rows s.columns a) (word r) o
unfolding scaling_means scaling_tests faults
scaling_exact s d a out r o says = exact (scaling_tests s d a (length out)) out (scaling_of d s.rows s.columns a) (word r) o (faults_positive First s a) says

pub transpose_exact : (s : Size) (a out : List ℕ) (r : Answer) (o : List ℕ) → (word r, o) ≡ transpose_means s a out → Exact (single_tests s (transposed_size s) a (length out)) out (transpose_of s.rows s.columns a) (word r) o
unfolding transpose_means single_tests faults
transpose_exact s a out r o says = exact (single_tests s (transposed_size s) a (length out)) out (transpose_of s.rows s.columns a) (word r) o (faults_positive First s a) says

pub pack_exact : (s : Size) (cells out : List ℕ) (r : Answer) (o : List ℕ) → (word r, o) ≡ pack_means s cells out → Exact (pack_tests s cells (length out)) out (pack_of s.rows s.columns cells) (word r) o
unfolding pack_means pack_tests
pack_exact s cells out r o says = exact (pack_tests s cells (length out)) out (pack_of s.rows s.columns cells) (word r) o (pack_positive s cells (length out)) says

pub unpack_exact : (s : Size) (a out : List ℕ) (r : Answer) (o : List ℕ) → (word r, o) ≡ unpack_means s a out → Exact (unpack_tests s a (length out)) out (unpack_of s.rows s.columns a) (word r) o
unfolding unpack_means unpack_tests faults
unpack_exact s a out r o says = exact (unpack_tests s a (length out)) out (unpack_of s.rows s.columns a) (word r) o (faults_positive First s a) says

pub tally_exact : (c : ℕ) (a : List ℕ) (r : Result Tallied Reason) → tally_told r ≡ tally_means c a
    → Exact {S = List ℕ × Bool} (check_tests (record { rows = 1; columns = c }) a) (0 ∷ 0 ∷ 0 ∷ [], false)
    (tally_row (cell c a 0) c, balanced (cell c a 0) c) (word r) (tally_told r).1
unfolding tally_means check_tests faults
tally_exact c a r says = exact (check_tests (record { rows = 1; columns = c }) a) _ _ (word r) (tally_told r).1 (faults_positive First (record { rows = 1; columns = c }) a) says

-- ---- jobs

pub quote_exact : (x : Size) (w : ℕ) (r : Result ℕ Reason) → told 0 r ≡ quote_means x w → Exact (quote_tests x w) 0 (quote x.rows x.columns (meant x w)) (word r) (held 0 r)
unfolding quote_means quote_tests
quote_exact x w r says = exact (quote_tests x w) _ _ (word r) (held 0 r) tt says

pub width_exact : (x : Size) (w : ℕ) (r : Result ℕ Reason) → told 0 r ≡ width_means x w → Exact (quote_tests x w) 0 (meant x w) (word r) (held 0 r)
unfolding width_means quote_tests
width_exact x w r says = exact (quote_tests x w) _ _ (word r) (held 0 r) tt says

pub total_exact : (x : Size) (w : ℕ) (a : List ℕ) (r : Result ℕ Reason) → told 0 r ≡ total_means x w a → Exact (total_tests x w a) 0 (total_of x (meant x w) a) (word r) (held 0 r)
unfolding total_means total_tests faults
total_exact x w a r says = exact (total_tests x w a) _ _ (word r) (held 0 r) (faults_positive First x a) says

pub opening_exact : (x y : Size) (w : ℕ) (a b t p : List ℕ) (r : Result Job Reason) (t₁ p₁ : List ℕ) → opened r t₁ p₁ ≡ opening_means x y w a b t p
    → Exact {S = Job × (List ℕ × List ℕ)} (opening_tests x y w a b (length t) (length p)) (no_job, (t, p)) (opened_of x y w) (opened r t₁ p₁).0 (opened r t₁ p₁).1
unfolding opening_means opening_tests faults
opening_exact x y w a b t p r t₁ p₁ says =
    exact (opening_tests x y w a b (length t) (length p)) _ _ (opened r t₁ p₁).0 (opened r t₁ p₁).1 (pair_positive First Second x y a b) says

pub turn_exact : (job : Job) (a b t p : List ℕ) (budget : ℕ) (r : Result Turned Reason) (t₁ p₁ : List ℕ) → turned r t₁ p₁ ≡ turn_means job a b t p budget
    → Exact {S = Job × (ℕ × (Bool × (List ℕ × List ℕ)))} (turn_tests job a b t p) (no_job, (0, (false, (t, p)))) (turned_of job a b t p budget) (turned r t₁ p₁).0 (turned r t₁ p₁).1
unfolding turn_means turn_tests found_tests faults
turn_exact job a b t p budget r t₁ p₁ says = exact (turn_tests job a b t p) _ _ (turned r t₁ p₁).0 (turned r t₁ p₁).1 (turn_positive job a b t p) says

pub product_exact : (x y : Size) (w : ℕ) (a b t p : List ℕ) (r : Answer) (o : List ℕ × List ℕ) → (word r, o) ≡ product_means x y w a b t p
    → Exact {S = List ℕ × List ℕ} (opening_tests x y w a b (length t) (length p)) (t, p)
    (encode (2 ^ meant x w) y.columns (end_of x y (meant x w) a b).table, encode x.rows y.columns (end_of x y (meant x w) a b).product) (word r) o
unfolding product_means opening_tests faults
product_exact x y w a b t p r o says = exact (opening_tests x y w a b (length t) (length p)) _ _ (word r) o (pair_positive First Second x y a b) says
