-- For each call: a number is given exactly when its test is the first in the order that holds, and then every buffer, the record too, holds
-- what it held; done is given exactly when no test holds, and then what is new is left. Assumes nothing.
use mathlib.Core.Path.{◌≡◌}
use mathlib.Core.List.{List, [], ◌∷◌}
use Prim.Native.Nat.{ℕ}
use lib.ListN.{length}
use Rattle.buffers.specs.Buffer.{cell, encode}
use Rattle.requests.specs.declared.Size.{Size}
use Rattle.requests.specs.Faults.{faults}
use Rattle.requests.specs.declared.Buffer.TheVariants.{First, Second}
use Rattle.requests.specs.Exact.{Numbered, Exact}
use Rattle.requests.proofs.PairLaws.{faults_positive, pair_positive}
use Rattle.requests.proofs.AnswerLaws.{positive_append, numbered, exact}
use Rattle.matrix.proofs.JobLaws.{cell_positive}
use Rattle.steps.specs.Matrix.{schoolbook}
use Rattle.steps.specs.Count.{quote}
use Rattle.matrix.specs.Job.{meant}
use Rattle.matrix.specs.Opening.{opened_of}
use Rattle.matrix.specs.Turn.{cell_tests, late_tests, turned_of}
use Rattle.matrix.specs.Combination.{combination_of}
use Rattle.matrix.specs.Negation.{negation_of}
use Rattle.matrix.specs.Record.{job_in}
use Rattle.wordbytes.specs.Bytes.{words_in, bytes_of}
use Rattle.cface.specs.Check.{check_sizes, check_face_tests, check_face}
use Rattle.cface.specs.Pair.{pair_sizes, pair_face_tests}
use Rattle.cface.specs.Combination.{combination_face}
use Rattle.cface.specs.Negation.{negation_sizes, negation_face_tests, negation_face}
use Rattle.cface.specs.Count.{count_tests}
use Rattle.cface.specs.Width.{width_face}
use Rattle.cface.specs.Quote.{quote_face}
use Rattle.cface.specs.Product.{product_sizes, product_face_tests, product_face}
use Rattle.cface.specs.Open.{open_sizes, open_face_tests, open_bytes, open_face}
use Rattle.cface.specs.Turn.{turn_sizes, turn_bytes, turn_face_tests, turn_face}

pub check_exact : (s : Size) (a : List ℕ) (r : ℕ) → r ≡ check_face s a → Numbered (check_face_tests s a) r
unfolding check_face check_face_tests check_sizes faults
check_exact s a r says = numbered (check_face_tests s a) r (faults_positive First s (words_in a)) says

pub combination_exact : (x y : Size) (d : ℕ) (a b out : List ℕ) (r : ℕ) (o : List ℕ) → (r, o) ≡ combination_face x y d a b out
    → Exact (pair_face_tests x y d a b (length out)) out (bytes_of (combination_of d x.rows x.columns (words_in a) (words_in b))) r o
unfolding combination_face pair_face_tests pair_sizes faults
combination_exact x y d a b out r o says = exact (pair_face_tests x y d a b (length out)) _ _ r o (pair_positive First Second x y (words_in a) (words_in b)) says

pub negation_exact : (s : Size) (a out : List ℕ) (r : ℕ) (o : List ℕ) → (r, o) ≡ negation_face s a out
    → Exact (negation_face_tests s a (length out)) out (bytes_of (negation_of s.rows s.columns (words_in a))) r o
unfolding negation_face negation_face_tests negation_sizes faults
negation_exact s a out r o says = exact (negation_face_tests s a (length out)) _ _ r o (faults_positive First s (words_in a)) says

pub product_exact : (x y : Size) (a b out : List ℕ) (r : ℕ) (o : List ℕ) → (r, o) ≡ product_face x y a b out
    → Exact (product_face_tests x y a b (length out)) out
    (bytes_of (encode x.rows y.columns (schoolbook x.columns (cell x.columns (words_in a)) (cell y.columns (words_in b))))) r o
unfolding product_face product_face_tests product_sizes faults
product_exact x y a b out r o says = exact (product_face_tests x y a b (length out)) _ _ r o (pair_positive First Second x y (words_in a) (words_in b)) says

pub width_exact : (x : Size) (w : ℕ) (out : List ℕ) (r : ℕ) (o : List ℕ) → (r, o) ≡ width_face x w out → Exact (count_tests x w (length out)) out (bytes_of (meant x w ∷ [])) r o
unfolding width_face count_tests
width_exact x w out r o says = exact (count_tests x w (length out)) _ _ r o tt says

pub quote_exact : (x : Size) (w : ℕ) (out : List ℕ) (r : ℕ) (o : List ℕ) → (r, o) ≡ quote_face x w out
    → Exact (count_tests x w (length out)) out (bytes_of (quote x.rows x.columns (meant x w) ∷ [])) r o
unfolding quote_face count_tests
quote_exact x w out r o says = exact (count_tests x w (length out)) _ _ r o tt says

pub open_exact : (x y : Size) (w : ℕ) (job a b t p : List ℕ) (r : ℕ) (o : List ℕ × (List ℕ × List ℕ)) → (r, o) ≡ open_face x y w job a b t p
    → Exact {S = List ℕ × (List ℕ × List ℕ)} (open_face_tests x y w (length job) a b (length t) (length p)) (job, (t, p)) (open_bytes (opened_of x y w)) r o
unfolding open_face open_face_tests open_sizes faults
open_exact x y w job a b t p r o says = exact (open_face_tests x y w (length job) a b (length t) (length p)) _ _ r o (pair_positive First Second x y (words_in a) (words_in b)) says

pub turn_exact : (job a b t p : List ℕ) (budget : ℕ) (r : ℕ) (o : List ℕ × (List ℕ × List ℕ)) → (r, o) ≡ turn_face job a b t p budget
    → Exact {S = List ℕ × (List ℕ × List ℕ)} (turn_face_tests job a b t p) (job, (t, p)) (turn_bytes (turned_of (job_in (words_in job)) (words_in a) (words_in b) (words_in t) (words_in p) budget)) r o
unfolding turn_face turn_face_tests turn_sizes faults
turn_exact job a b t p budget r o says = exact (turn_face_tests job a b t p) _ _ r o (positive_append (cell_tests (job_in (words_in job)) (words_in a) (words_in b) (words_in t) (words_in p)) (late_tests (job_in (words_in job)) (words_in a)) (cell_positive (job_in (words_in job)) (words_in a) (words_in b) (words_in t) (words_in p)) tt) says
