-- Demand 2 in bytes: what is done is right. Each result is of the exact length, its words are legal and hold the digits that they are to hold,
-- and no other bytes do; the record's words are those of the new job. Assumes nothing.
use mathlib.Core.Path.{◌≡◌}
use mathlib.Core.Bool.{false}
use mathlib.Core.List.{List, [], ◌∷◌}
use Prim.Native.Nat.{ℕ, zero, suc, ◌+◌, ◌*◌, ◌%◌, ◌^◌, ◌≤◌, ◌<◌}
use native.Mathlib.Omega.{arith}
use lib.Dec.{ltb, eqb}
use lib.ListN.{length}
use borrow.Author.Tests.{ltb-false}
use Rattle.cells.specs.Digit.{combine, neg3}
use Rattle.cells.proofs.AnyLaws.{or_left, or_right}
use Rattle.buffers.specs.Buffer.{cell, Words}
use Rattle.buffers.proofs.SizeLaws.{cell_lt}
use Rattle.requests.specs.declared.Size.{Size}
use Rattle.requests.specs.Exact.{None}
use Rattle.requests.specs.Faults.{faults}
use Rattle.requests.proofs.SizeLaws.{over_rows, over_columns}
use Rattle.steps.specs.Matrix.{schoolbook}
use Rattle.steps.specs.Count.{quote, total}
use Rattle.steps.specs.Turn.{made, turn}
use Rattle.steps.proofs.Running.{run_digits}
use Rattle.steps.proofs.Most.{quote_most, total_most}
use Rattle.walk.specs.Ran.{found}
use Rattle.matrix.specs.declared.job.Job.{Job}
use Rattle.matrix.specs.Job.{meant, total_of}
use Rattle.matrix.specs.Combination.{combination_of}
use Rattle.matrix.specs.Negation.{negation_of}
use Rattle.matrix.specs.Opening.{new_job}
use Rattle.matrix.specs.Turn.{size_a, size_b, left_of, made_of, on_job, turned_of}
use Rattle.matrix.specs.Record.{record_of}
use Rattle.matrix.proofs.FieldLaws.{combine_lt, neg_lt}
use Rattle.matrix.proofs.JobLaws.{meant_le}
use Rattle.wordbytes.specs.Bytes.{words_in, bytes_of}
use Rattle.wordbytes.specs.ShowsBytes.{ShowsBytes}
use Rattle.wordbytes.proofs.ByteLaws.{words_bytes, bytes_length}
use Rattle.wordbytes.proofs.ShowsBytesLaws.{encode_shows_bytes}
use Rattle.cface.specs.Limit.{above}
use Rattle.cface.specs.Combination.{combination_face}
use Rattle.cface.specs.Negation.{negation_face}
use Rattle.cface.specs.Count.{ShowsCount, count_tests}
use Rattle.cface.specs.Width.{width_face}
use Rattle.cface.specs.Quote.{quote_face}
use Rattle.cface.specs.Product.{product_face}
use Rattle.cface.specs.Open.{open_sizes, open_face_tests, open_face}
use Rattle.cface.specs.Turn.{turn_sizes, turn_face_tests, turn_face}
use Rattle.cface.specs.Stands.{Held}
use Rattle.cface.specs.JobShows.{OpenedJob, found_in, TurnedJob}
use Rattle.cface.proofs.LimitLaws.{above_rows, above_columns}
use Rattle.cface.proofs.Refusals.{combination_exact, negation_exact, product_exact, width_exact, quote_exact, open_exact, turn_exact}
use Rattle.cface.proofs.Turns.{record_words}

module _ (x y : Size) (a b out : List ℕ) (r : ℕ) (o : List ℕ) where
  abbrev c : ℕ
  c = x.columns

  -- X plus d times Y
  pub combination_right : (d : ℕ) → (r, o) ≡ combination_face x y d a b out → r ≡ 0 → ShowsBytes x.rows c (λ i j. (cell c (words_in a) i j + d * cell c (words_in b) i j) % 3) o
  unfolding combination_of combine
  combination_right d says z =
      rw ((combination_exact x y d a b out r o says).right z)
      (encode_shows_bytes x.rows c (λ i j. combine d (cell c (words_in a) i j) (cell c (words_in b) i j)) (λ i j h l. combine_lt d (cell c (words_in a) i j) (cell c (words_in b) i j)))

  pub product_right : (r, o) ≡ product_face x y a b out → r ≡ 0 → ShowsBytes x.rows y.columns (schoolbook c (cell c (words_in a)) (cell y.columns (words_in b))) o
  unfolding schoolbook
  product_right says z = rw ((product_exact x y a b out r o says).right z) (encode_shows_bytes x.rows y.columns _ (λ i j h l. omega arith))

pub negation_right : (s : Size) (a out : List ℕ) (r : ℕ) (o : List ℕ) → (r, o) ≡ negation_face s a out → r ≡ 0 → ShowsBytes s.rows s.columns (λ i j. 2 * cell s.columns (words_in a) i j % 3) o
unfolding negation_of neg3
negation_right s a out r o says z =
    rw ((negation_exact s a out r o says).right z) (encode_shows_bytes s.rows s.columns (λ i j. neg3 (cell s.columns (words_in a) i j)) (λ i j h l. neg_lt (cell s.columns (words_in a) i j)))

-- ---- counts

count_words : (n : ℕ) → n < 2 ^ 64 → Words (n ∷ [])
count_words n h zero = h
count_words n h (suc k) = omega arith

count_shown : (n : ℕ) → n < 2 ^ 64 → ShowsCount n (bytes_of (n ∷ []))
count_shown n h = (bytes_length (n ∷ []), words_bytes (n ∷ []) (count_words n h))

module _ (x : Size) (w : ℕ) (out : List ℕ) (r : ℕ) (o : List ℕ) where
  -- the width meant
  pub width_right : (r, o) ≡ width_face x w out → r ≡ 0 → ShowsCount (meant x w) o
  unfolding count_tests
  width_right says z =
      let E = width_exact x w out r o says in
      let none : None (count_tests x w (length out)) = E.numbered.done.0 z in
      rw (E.right z) (count_shown (meant x w) (omega (arith, meant_le x w (ltb-false 8 w none.1.1.0))))

  pub quote_right : (r, o) ≡ quote_face x w out → r ≡ 0 → ShowsCount (quote x.rows x.columns (meant x w)) o
  unfolding count_tests
  quote_right says z =
      let E = quote_exact x w out r o says in
      let none : None (count_tests x w (length out)) = E.numbered.done.0 z in
      let most = quote_most x.rows x.columns (meant x w) (over_rows x none.0) (over_columns x none.0) (meant_le x w (ltb-false 8 w none.1.1.0)) in
      rw (E.right z) (count_shown (quote x.rows x.columns (meant x w)) (omega (arith, most)))

-- ---- jobs

-- the record, and zero in table and product
pub open_right : (x y : Size) (w : ℕ) (job a b t p : List ℕ) (r : ℕ) (o : Held) → (r, o) ≡ open_face x y w job a b t p → r ≡ 0 → OpenedJob x y w o
unfolding open_face_tests open_sizes record_of
open_right x y w job a b t p r o says z =
    let E = open_exact x y w job a b t p r o says in
    let none : None (open_face_tests x y w (length job) a b (length t) (length p)) = E.numbered.done.0 z in
    let hx = or_left (above x) (above y) none.1.1.0 in
    let hy = or_right (above x) (above y) none.1.1.0 in
    let hw : w ≤ 8 = ltb-false 8 w none.1.1.1.1.0 in
    rw (E.right z) (record {
      long = bytes_length (record_of (new_job x y w) 0 false);
      words = words_bytes _ (record_words (new_job x y w) 0 false (omega (arith, above_rows x hx)) (omega (arith, above_columns x hx)) (omega (arith, above_columns y hy)) (omega (arith, meant_le x w hw)) (omega arith) (omega arith));
      table = encode_shows_bytes (2 ^ meant x w) y.columns (λ i j. 0) (λ i j _ _. omega arith);
      product = encode_shows_bytes x.rows y.columns (λ i j. 0) (λ i j _ _. omega arith);
    })

-- the next steps of the list, on the contents as found
pub turn_right : (job a b t p : List ℕ) (budget r : ℕ) (o : Held) → (r, o) ≡ turn_face job a b t p budget → r ≡ 0 → TurnedJob job a b t p budget o
unfolding turn_face_tests turn_sizes faults turned_of turn found made total record_of
turn_right job a b t p budget r o says z =
    let E = turn_exact job a b t p budget r o says in
    let none : None (turn_face_tests job a b t p) = E.numbered.done.0 z in
    let J : Job = found_in job in
    let A : List ℕ = words_in a in
    let hx = or_left (above (size_a J)) (above (size_b J)) none.1.1.0 in
    let hy = or_right (above (size_a J)) (above (size_b J)) none.1.1.0 in
    let hw : J.width ≤ 8 = ltb-false 8 J.width (or_right (eqb J.width 0) (ltb 8 J.width) none.1.1.1.0) in
    let late = none.1.1.1.1.1.1.1.1.1.1.1.1.1 in
    let few = total_most J.m J.l J.width (cell J.l A) (omega (arith, above_rows (size_a J) hx)) (omega (arith, above_columns (size_a J) hx)) hw in
    let past : J.done ≤ total_of (size_a J) J.width A = ltb-false _ _ late.0 in
    let next : Job = on_job J (left_of J A (words_in b) (words_in t) (words_in p) budget).done in
    let fits = record_words next (made_of J A budget) (eqb next.done (total_of (size_a J) J.width A)) (omega (arith, above_rows (size_a J) hx)) (omega (arith, above_columns (size_a J) hx)) (omega (arith, above_columns (size_b J) hy)) (omega arith) (omega arith) (omega arith) in
    let digits = run_digits (cell J.n (words_in b)) _ (found J.n (words_in t) (words_in p)) (record { table = λ i j. cell_lt J.n (words_in t) i j; product = λ i j. cell_lt J.n (words_in p) i j }) in
    rw (E.right z) (record {
      long = bytes_length (record_of next (made_of J A budget) (eqb next.done (total_of (size_a J) J.width A)));
      words = words_bytes _ fits;
      table = encode_shows_bytes (2 ^ J.width) J.n _ (λ i j _ _. digits.table i j);
      product = encode_shows_bytes J.m J.n _ (λ i j _ _. digits.product i j);
    })
