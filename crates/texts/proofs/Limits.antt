-- What main may read and must have room for: the first 16,659 bytes of an input decide the answer, which has at most 8,338. Assumes nothing.
use mathlib.Core.Path.{◌≡◌, refl, sym, ap, ap₂, ◌∙◌}
use mathlib.Core.Bool.{Bool, false}
use mathlib.Core.List.{List, [], ◌∷◌, ◌++◌}
use Prim.Native.Nat.{ℕ, zero, suc, ◌+◌, ◌-◌, ◌*◌, ◌≤◌, ◌<◌}
use native.Mathlib.Nat.{mul-le-mul_right, suc-mul}
use native.Mathlib.Omega.{arith}
use lib.Dec.{ltb}
use lib.ListN.{length, take, drop}
use lib.Seq.{take-take, drop-drop, take-nil}
use borrow.Author.Tests.{lt-ltb, ltb-false}
use Rattle.cells.proofs.AnyLaws.{or_left, or_right, any_cong}
use Rattle.buffers.specs.Buffer.{wide, joined, cell, encode}
use Rattle.requests.specs.declared.Size.{Size}
use Rattle.requests.specs.Answers.{Tests, first}
use Rattle.requests.proofs.AnswerLaws.{append_given, append_none, append_front, append_same, first_none}
use Rattle.hexadecimal.specs.Line.{unframed}
use Rattle.frames.specs.Header.{read_header_tests}
use Rattle.frames.specs.RowLine.{line_long, words_of}
use Rattle.steps.specs.Matrix.{schoolbook}
use Rattle.matrix.specs.Job.{meant, product_size, total_of}
use Rattle.texts.specs.MatrixText.{line_at, misread, words_read, size_in, words_in, rest_of, above, head_tests, matrix_tests}
use Rattle.texts.specs.Multiply.{form_tests, product_tests, multiply_tests, refusal, product_text, answer_text, multiply_text}
use Rattle.texts.proofs.LaidLaws.{refusal_long}
use Rattle.texts.proofs.TextLaws.{same_size, same_head, limit_lines}
use Rattle.texts.proofs.FramesLaws.{frames_long}
use Rattle.texts.proofs.MultiplyLaws.{form_refused}

drop_take : (n d : ℕ) (l : List ℕ) → drop d (take n l) ≡ take (n - d) (drop d l)
drop_take n zero l =
    let e : n - 0 ≡ n = omega arith in
    ap (λ (k : ℕ). take k l) (sym e)
drop_take zero (suc d) l =
    let e : 0 - suc d ≡ 0 = omega arith in
    sym (ap (λ (k : ℕ). take k (drop (suc d) l)) e)
drop_take (suc n) (suc d) [] = sym (take-nil (suc n - suc d))
drop_take (suc n) (suc d) (x ∷ l) =
    let e : n - d ≡ suc n - suc d = omega arith in
    drop_take n d l ∙ ap (λ (k : ℕ). take k (drop d l)) e

-- a part of a text that the cut does not reach
part_same : (n d k : ℕ) (l : List ℕ) → d + k ≤ n → take k (drop d (take n l)) ≡ take k (drop d l)
part_same n d k l h = ap (λ (r : List ℕ). take k r) (drop_take n d l) ∙ take-take k (n - d) (drop d l) (omega arith)

joined_cong : (n : ℕ) (f g : ℕ → List ℕ) → ((i : ℕ) → i < n → f i ≡ g i) → joined n f ≡ joined n g
unfolding joined
joined_cong zero f g h = refl
joined_cong (suc n) f g h = ap₂ ◌++◌ (h 0 (omega arith)) (joined_cong n (λ i. f (suc i)) (λ i. g (suc i)) (λ i l. h (suc i) (omega arith)))

-- ---- a matrix at the beginning of a text that is cut after n bytes

module _ (text : List ℕ) where
  abbrev r : ℕ
  r = (size_in text).rows

  abbrev c : ℕ
  c = (size_in text).columns

  -- how many bytes the matrix takes
  abbrev taken : ℕ
  taken = 9 + r * line_long c

  none_above : first (head_tests text) ≡ 0 → above (size_in text) ≡ false
  unfolding head_tests read_header_tests
  none_above h = (first_none (head_tests text) tt h).1.1.0

  few : first (head_tests text) ≡ 0 → r ≤ 128
  unfolding above
  few h = ltb-false 128 r (or_left (ltb 128 r) (ltb 128 c) (none_above h))

  narrow : first (head_tests text) ≡ 0 → c ≤ 128
  unfolding above
  narrow h = ltb-false 128 c (or_right (ltb 128 r) (ltb 128 c) (none_above h))

  short : first (head_tests text) ≡ 0 → taken ≤ 8329
  short h = omega (arith, limit_lines r c (few h) (narrow h))

  module _ (n : ℕ) (room : 8329 ≤ n) where
    head_same : take 9 (take n text) ≡ take 9 text
    head_same = take-take 9 n text (omega arith)

    size_same : size_in (take n text) ≡ size_in text
    size_same = same_size (take n text) text head_same

    tests_same : head_tests (take n text) ≡ head_tests text
    tests_same = same_head (take n text) text head_same

    module _ (ok : first (head_tests text) ≡ 0) where
      line_same : (i : ℕ) → i < r → line_at c (drop 9 (take n text)) i ≡ line_at c (drop 9 text) i
      unfolding line_at
      line_same i l =
          let e : suc i * line_long c ≤ r * line_long c = mul-le-mul_right (line_long c) l in
          ap (λ (t : List ℕ). take (line_long c) t) (drop-drop (i * line_long c) 9 (take n text))
          ∙ part_same n (9 + i * line_long c) (line_long c) text (omega (arith, suc-mul i (line_long c), short ok))
          ∙ sym (ap (λ (t : List ℕ). take (line_long c) t) (drop-drop (i * line_long c) 9 text))

      matrix_same : matrix_tests (take n text) ≡ matrix_tests text
      unfolding matrix_tests misread
      matrix_same =
          let e = any_cong (λ i. unframed (line_at c (drop 9 (take n text)) i) (wide c * 16)) (λ i. unframed (line_at c (drop 9 text) i) (wide c * 16)) r (λ i l. ap (λ (t : List ℕ). unframed t (wide c * 16)) (line_same i l)) in
          rw (size_same, tests_same, e)

      words_same : words_in (take n text) ≡ words_in text
      unfolding words_in words_read
      words_same = rw size_same (joined_cong r _ _ (λ i l. ap (λ (t : List ℕ). words_of (wide c) t) (line_same i l)))

      rest_same : rest_of (take n text) ≡ take (n - taken) (rest_of text)
      unfolding rest_of
      rest_same = rw size_same (drop_take n taken text)

-- ---- the whole text

abbrev more : List ℕ → Tests
more rest = (ltb 0 (length rest), 10) ∷ []

more_same : (rest : List ℕ) (n : ℕ) → 1 ≤ n → more (take n rest) ≡ more rest
more_same rest n h = ap (λ (b : Bool). (b, 10) ∷ []) (go rest n h)
  where
    go : (rest : List ℕ) (n : ℕ) → 1 ≤ n → ltb 0 (length (take n rest)) ≡ ltb 0 (length rest)
    go [] n h = ap (λ (l : List ℕ). ltb 0 (length l)) (take-nil n)
    go (x ∷ rest) zero h = absurd (omega arith)
    go (x ∷ rest) (suc n) h = lt-ltb 0 (length (x ∷ take n rest)) (omega arith) ∙ sym (lt-ltb 0 (length (x ∷ rest)) (omega arith))

first_head : (text : List ℕ) (us : Tests) (k : ℕ) → first (head_tests text) ≡ suc k → first (matrix_tests text ++ us) ≡ suc k
unfolding matrix_tests
first_head text us k e =
    let ne : (first (head_tests text) ≡ 0 → ⊥) = λ z. absurd (omega (arith, z, e)) in
    let f = append_given (head_tests text) ((misread (size_in text).rows (size_in text).columns (drop 9 text), 10) ∷ []) ne in
    append_given (matrix_tests text) us (λ z. absurd (omega (arith, f, z, e))) ∙ f ∙ e

-- B and the end, behind a cut
second_same : (text : List ℕ) (n : ℕ) → 8330 ≤ n → first (matrix_tests (take n text) ++ more (rest_of (take n text))) ≡ first (matrix_tests text ++ more (rest_of text))
second_same text n room = go (first (head_tests text)) refl
  where
    go : (k : ℕ) → first (head_tests text) ≡ k → first (matrix_tests (take n text) ++ more (rest_of (take n text))) ≡ first (matrix_tests text ++ more (rest_of text))
    go zero e =
        let d : 1 ≤ n - taken text = omega (arith, short text e) in
        ap₂ (λ (ts us : Tests). first (ts ++ us)) (matrix_same text n (omega arith) e) (ap more (rest_same text n (omega arith) e) ∙ more_same (rest_of text) (n - taken text) d)
    go (suc k) e = first_head (take n text) _ k (ap first (tests_same text n (omega arith)) ∙ e) ∙ sym (first_head text _ k e)

-- in a text of the form both headers pass
first_passes : (text : List ℕ) → first (form_tests text) ≡ 0 → first (head_tests text) ≡ 0
unfolding form_tests matrix_tests head_tests read_header_tests
first_passes text h = append_front (head_tests text) _ tt (append_front (matrix_tests text) _ tt h)

second_passes : (text : List ℕ) → first (form_tests text) ≡ 0 → first (head_tests (rest_of text)) ≡ 0
unfolding form_tests matrix_tests head_tests read_header_tests
second_passes text h =
    let e = append_front (matrix_tests text) (matrix_tests (rest_of text) ++ more (rest_of (rest_of text))) tt h in
    append_front (head_tests (rest_of text)) _ tt (append_front (matrix_tests (rest_of text)) _ tt (sym (append_none (matrix_tests text) _ tt e) ∙ h))

-- what is printed for a text of the form, and for another
answer : Size → Size → List ℕ → List ℕ → List ℕ
answer x y a b = answer_text (first (product_tests x y a b)) (product_text x y a b)

answer_of : (text : List ℕ) → first (form_tests text) ≡ 0 → multiply_text text ≡ answer (size_in text) (size_in (rest_of text)) (words_in text) (words_in (rest_of text))
unfolding answer multiply_text multiply_tests form_tests matrix_tests head_tests read_header_tests
answer_of text h = ap (λ (k : ℕ). answer_text k (product_text (size_in text) (size_in (rest_of text)) (words_in text) (words_in (rest_of text)))) (append_none (form_tests text) _ tt h)

pub refused_of : (text : List ℕ) (k : ℕ) → first (form_tests text) ≡ suc k → multiply_text text ≡ refusal (suc k)
unfolding multiply_text answer_text
refused_of text k e = rw (← form_refused text (suc k) (λ z. absurd (omega arith)) (sym e))

module _ (text : List ℕ) (n : ℕ) (room : 16659 ≤ n) where
  form_same : first (form_tests (take n text)) ≡ first (form_tests text)
  unfolding form_tests
  form_same = go (first (head_tests text)) refl
    where
      go : (k : ℕ) → first (head_tests text) ≡ k
          → first (matrix_tests (take n text) ++ (matrix_tests (rest_of (take n text)) ++ more (rest_of (rest_of (take n text))))) ≡ first (matrix_tests text ++ (matrix_tests (rest_of text) ++ more (rest_of (rest_of text))))
      go zero e =
          let d : 8330 ≤ n - taken text = omega (arith, short text e) in
          ap₂ (λ (ts : Tests) (t : List ℕ). first (ts ++ (matrix_tests t ++ more (rest_of t)))) (matrix_same text n (omega arith) e) (rest_same text n (omega arith) e)
          ∙ append_same (matrix_tests text) _ _ (second_same (rest_of text) (n - taken text) d)
      go (suc k) e = first_head (take n text) _ k (ap first (tests_same text n (omega arith)) ∙ e) ∙ sym (first_head text _ k e)

  -- the first 16,659 bytes decide the answer
  pub reads_enough : multiply_text (take n text) ≡ multiply_text text
  reads_enough = go (first (form_tests text)) refl
    where
      go : (k : ℕ) → first (form_tests text) ≡ k → multiply_text (take n text) ≡ multiply_text text
      go zero e =
          let p = first_passes text e in
          let q = second_passes text e in
          let d : 8329 ≤ n - taken text = omega (arith, short text p) in
          let rest = rest_same text n (omega arith) p in
          let y = ap size_in rest ∙ size_same (rest_of text) (n - taken text) d in
          let b = ap words_in rest ∙ words_same (rest_of text) (n - taken text) d q in
          answer_of (take n text) (form_same ∙ e) ∙ ap₂ (λ (x y : Size). answer x y (words_in (take n text)) (words_in (rest_of (take n text)))) (size_same text n (omega arith)) y
          ∙ ap₂ (λ (a b : List ℕ). answer (size_in text) (size_in (rest_of text)) a b) (words_same text n (omega arith) p) b ∙ sym (answer_of text e)
      go (suc k) e = refused_of (take n text) k (form_same ∙ e) ∙ sym (refused_of text k e)

form_passes : (text : List ℕ) → first (multiply_tests text) ≡ 0 → first (form_tests text) ≡ 0
unfolding multiply_tests form_tests matrix_tests head_tests read_header_tests
form_passes text h = append_front (form_tests text) _ tt h

-- no answer is longer than that of two matrices of 128 rows and 128 columns
pub prints_little : (text : List ℕ) → length (multiply_text text) ≤ 8338
unfolding multiply_text multiply_tests answer_text product_text
prints_little text = go (first (multiply_tests text)) refl
  where
    go : (k : ℕ) → first (multiply_tests text) ≡ k → length (answer_text k (product_text (size_in text) (size_in (rest_of text)) (words_in text) (words_in (rest_of text)))) ≤ 8338
    go zero e =
        let h = form_passes text e in
        let d = limit_lines (size_in text).rows (size_in (rest_of text)).columns (few text (first_passes text h)) (narrow (rest_of text) (second_passes text h)) in
        omega (arith, d, frames_long (product_size (size_in text) (size_in (rest_of text))) (encode (size_in text).rows (size_in (rest_of text)).columns (schoolbook (size_in text).columns (cell (size_in text).columns (words_in text)) (cell (size_in (rest_of text)).columns (words_in (rest_of text))))) (total_of (size_in text) (meant (size_in text) 0) (words_in text)))
    go (suc k) e = omega (arith, refusal_long (suc k))
