-- The first fault stops the reading: whatever comes after it, the answer is the same. Assumes nothing.
use mathlib.Core.Path.{◌≡◌, refl, sym, ap, ◌∙◌}
use mathlib.Core.Bool.{Bool, true, false, true≢false, not}
use mathlib.Core.List.{List, [], ◌∷◌, ◌++◌, append-nil}
use Prim.Native.Nat.{ℕ, zero, suc, ◌+◌, ◌*◌, ◌≤◌, ◌<◌}
use native.Mathlib.Decide.{dec_lt}
use native.Mathlib.Nat.{mul-le-mul_right, suc-mul}
use native.Mathlib.Omega.{arith}
use lib.Dec.{ltb, eqb}
use lib.ListN.{length, get_or, take, drop, length-append, length-drop, drop_of_length-le, get_or-append}
use lib.Seq.{get_or-take, take-append-le, drop-append-le}
use borrow.Author.Tests.{lt-ltb, le-ltb, ltb-true, ltb-false}
use Rattle.cells.proofs.AnyLaws.{or_left, or_right, or_yes, any_none, any_at, any_cong, any_more}
use Rattle.buffers.specs.Buffer.{wide}
use Rattle.requests.specs.Answers.{Tests, first}
use Rattle.requests.proofs.AnswerLaws.{here, later, append_given, append_none}
use Rattle.hexadecimal.specs.Digit.{digit_of}
use Rattle.hexadecimal.specs.Line.{undigit, unframed}
use Rattle.frames.specs.Header.{read_header_tests}
use Rattle.frames.specs.RowLine.{line_long}
use Rattle.texts.specs.MatrixText.{line_at, misread, size_in, rest_of, head_tests, matrix_tests}
use Rattle.texts.specs.Multiply.{form_tests, multiply_text}
use Rattle.texts.specs.Stops.{line_stops, head_stops, row_stops, rows_stop, matrix_stops, stops}
use Rattle.texts.proofs.TextLaws.{same_size, same_head}
use Rattle.texts.proofs.FormLaws.{form_first, form_second, form_more}
use Rattle.texts.proofs.Limits.{refused_of}
use Rattle.texts.proofs.StopsLaws.{line_short, line_whole, line_none, head_none, matrix_none}

-- a number that a text is refused with, whatever comes after it
pub record Final (tests : List ℕ → Tests) (text : List ℕ) : Type 0 where
  pub number : ℕ
  pub given : number ≡ 0 → ⊥
  pub stays : (more : List ℕ) → number ≡ first (tests (text ++ more))

-- ---- one line, of n digits and byte 10

module _ (n : ℕ) (text more : List ℕ) where
  byte_same : (k : ℕ) → k < length text → length text < n + 1 → get_or text k 0 ≡ get_or (take (n + 1) (text ++ more)) k 0
  byte_same k l h = sym (get_or-take (n + 1) (text ++ more) k 0 (omega arith) ∙ get_or-append text more 0 k l)

  undigit_stays : length text < n + 1 → undigit text (length text) ≡ true → undigit (take (n + 1) (text ++ more)) n ≡ true
  unfolding undigit
  undigit_stays h e =
      let f : ℕ → Bool = λ k. ltb 15 (digit_of (get_or text k 0)) in
      let g : ℕ → Bool = λ k. ltb 15 (digit_of (get_or (take (n + 1) (text ++ more)) k 0)) in
      any_more g (length text) n (omega arith) (sym (any_cong f g (length text) (λ k l. ap (λ (b : ℕ). ltb 15 (digit_of b)) (byte_same k l h))) ∙ e)

  pub line_stays : line_stops (n + 1) (unframed (take (n + 1) text) n) text ≡ true → unframed (take (n + 1) (text ++ more)) n ≡ true
  unfolding unframed
  line_stays e = go (dec_lt (length text) (n + 1))
    where
      go : Dec (length text < n + 1) → unframed (take (n + 1) (text ++ more)) n ≡ true
      go (yes l) =
          let u = undigit_stays l (sym (line_short n text l) ∙ e) in
          rw u (or_yes (not (eqb (length (take (n + 1) (text ++ more))) (n + 1))) true refl)
      go (no l) = ap (λ (t : List ℕ). unframed t n) (take-append-le (n + 1) text more (omega arith)) ∙ sym (line_whole n text (omega arith)) ∙ e

-- ---- the header line

module _ (text : List ℕ) where
  module _ (more : List ℕ) (room : 9 ≤ length text) where
    head_same : take 9 (text ++ more) ≡ take 9 text
    head_same = take-append-le 9 text more room

    size_same : size_in (text ++ more) ≡ size_in text
    size_same = same_size (text ++ more) text head_same

    tests_same : head_tests (text ++ more) ≡ head_tests text
    tests_same = same_head (text ++ more) text head_same

  head_short : length text < 9 → head_stops text ≡ true → Final head_tests text
  unfolding head_stops head_tests read_header_tests line_stops
  head_short h e =
      let u : line_stops 9 (unframed (take 9 text) 8) text ≡ true = rw (lt-ltb (length text) 9 h) (rw (lt-ltb (length text) 9 h) at e) in
      record {
        number = 10;
        given = λ z. absurd (omega arith);
        stays = λ more. sym (here (unframed (take 9 (text ++ more)) 8) 10 _ (line_stays 8 text more u));
      }

  head_whole : 9 ≤ length text → head_stops text ≡ true → Final head_tests text
  unfolding head_stops line_stops
  head_whole h e =
      let l = ltb-true 0 (first (head_tests text)) (rw (le-ltb (length text) 9 h) at e) in
      record {
        number = first (head_tests text);
        given = λ z. absurd (omega arith);
        stays = λ more. ap first (sym (tests_same more h));
      }

  head_final : head_stops text ≡ true → Final head_tests text
  head_final e = go (dec_lt (length text) 9)
    where
      go : Dec (length text < 9) → Final head_tests text
      go (yes l) = head_short l e
      go (no l) = head_whole (omega arith) e

-- ---- the lines of rows

module _ (text : List ℕ) where
  abbrev r : ℕ
  r = (size_in text).rows

  abbrev c : ℕ
  c = (size_in text).columns

  -- what is there from line i on
  abbrev from : ℕ → List ℕ
  from i = drop (i * line_long c) (drop 9 text)

  row_there : (i : ℕ) → row_stops c (from i) ≡ true → 9 + i * line_long c ≤ length text
  unfolding row_stops line_long
  row_there i e = go (dec_lt (length text) (9 + i * (wide c * 16 + 1)))
    where
      go : Dec (length text < 9 + i * (wide c * 16 + 1)) → 9 + i * (wide c * 16 + 1) ≤ length text
      go (no l) = omega arith
      go (yes l) =
          let z : from i ≡ [] = drop_of_length-le (drop 9 text) {i = i * (wide c * 16 + 1)} (omega (arith, length-drop 9 text)) in
          absurd (true≢false (sym e ∙ ap (λ (t : List ℕ). line_stops (wide c * 16 + 1) (unframed (take (wide c * 16 + 1) t) (wide c * 16)) t) z ∙ line_none (wide c * 16 + 1) _ (omega arith)))

  module _ (more : List ℕ) where
    from_same : (i : ℕ) → 9 + i * line_long c ≤ length text → drop (i * line_long c) (drop 9 (text ++ more)) ≡ from i ++ more
    from_same i h =
        ap (λ (t : List ℕ). drop (i * line_long c) t) (drop-append-le 9 text more (omega arith))
        ∙ drop-append-le (i * line_long c) (drop 9 text) more (omega (arith, length-drop 9 text))

    row_stays : (i : ℕ) → row_stops c (from i) ≡ true → unframed (line_at c (drop 9 (text ++ more)) i) (wide c * 16) ≡ true
    unfolding line_at row_stops line_long
    row_stays i e = rw (from_same i (row_there i e)) (line_stays (wide c * 16) (from i) more e)

    -- a whole line
    row_same : (i : ℕ) → i < r → 9 + r * line_long c ≤ length text → row_stops c (from i) ≡ false → unframed (line_at c (drop 9 (text ++ more)) i) (wide c * 16) ≡ false
    unfolding line_at row_stops line_long
    row_same i l room e =
        let m : suc i * (wide c * 16 + 1) ≤ r * (wide c * 16 + 1) = mul-le-mul_right (wide c * 16 + 1) l in
        let s = suc-mul i (wide c * 16 + 1) in
        let long : wide c * 16 + 1 ≤ length (from i) = omega (arith, length-drop (i * (wide c * 16 + 1)) (drop 9 text), length-drop 9 text) in
        rw (from_same i (omega arith), take-append-le (wide c * 16 + 1) (from i) more long) (sym (line_whole (wide c * 16) (from i) long) ∙ e)

    rows_stay : rows_stop r c (drop 9 text) ≡ true → misread r c (drop 9 (text ++ more)) ≡ true
    unfolding rows_stop misread
    rows_stay e = go (misread r c (drop 9 (text ++ more))) refl
      where
        row : (i : ℕ) (b : Bool) → row_stops c (from i) ≡ b → unframed (line_at c (drop 9 (text ++ more)) i) (wide c * 16) ≡ false → row_stops c (from i) ≡ false
        row i true h u = absurd (true≢false (sym (row_stays i h) ∙ u))
        row i false h u = h

        go : (b : Bool) → misread r c (drop 9 (text ++ more)) ≡ b → misread r c (drop 9 (text ++ more)) ≡ true
        go true h = h
        go false h = absurd (true≢false (sym e ∙ any_none (λ i. row_stops c (from i)) r (λ i l. row i (row_stops c (from i)) refl (any_at (λ i. unframed (line_at c (drop 9 (text ++ more)) i) (wide c * 16)) r h i l))))

    rows_same : 9 + r * line_long c ≤ length text → rows_stop r c (drop 9 text) ≡ false → misread r c (drop 9 (text ++ more)) ≡ false
    unfolding rows_stop misread
    rows_same room e = any_none (λ i. unframed (line_at c (drop 9 (text ++ more)) i) (wide c * 16)) r (λ i l. row_same i l room (any_at (λ i. row_stops c (from i)) r e i l))

-- ---- a matrix

module _ (text : List ℕ) where
  abbrev rows : List ℕ → Tests
  rows t = (misread (size_in t).rows (size_in t).columns (drop 9 t), 10) ∷ []

  -- a header line that is there and right
  head_right : head_stops text ≡ false → 9 ≤ length text → first (head_tests text) ≡ 0
  unfolding head_stops line_stops
  head_right e room =
      let z = ltb-false 0 (first (head_tests text)) (rw (le-ltb (length text) 9 room) at e) in
      omega arith

  rows_right : first (head_tests text) ≡ 0 → 9 ≤ length text → (more : List ℕ) → first (matrix_tests (text ++ more)) ≡ first (rows (text ++ more))
  unfolding matrix_tests head_tests read_header_tests
  rows_right h room more = append_none (head_tests (text ++ more)) (rows (text ++ more)) tt (ap first (tests_same text more room) ∙ h)

  matrix_head : head_stops text ≡ true → Final matrix_tests text
  unfolding matrix_tests
  matrix_head e =
      let F = head_final text e in
      record {
        number = F.number;
        given = F.given;
        stays = λ more. F.stays more ∙ sym (append_given (head_tests (text ++ more)) (rows (text ++ more)) (λ z. F.given (F.stays more ∙ z)));
      }

  matrix_rows : first (head_tests text) ≡ 0 → 9 ≤ length text → rows_stop (size_in text).rows (size_in text).columns (drop 9 text) ≡ true → Final matrix_tests text
  matrix_rows h room e = record {
    number = 10;
    given = λ z. absurd (omega arith);
    stays = λ more. sym (rows_right h room more ∙ here _ 10 [] (rw (size_same text more room) (rows_stay text more e)));
  }

  matrix_final : matrix_stops text ≡ true → Final matrix_tests text
  unfolding matrix_stops
  matrix_final e = go (head_stops text) refl (dec_lt (length text) 9)
    where
      go : (b : Bool) → head_stops text ≡ b → Dec (length text < 9) → Final matrix_tests text
      go true h d = matrix_head h
      go false h (yes l) = absurd (true≢false (sym e ∙ rw h (head_none text l)))
      go false h (no l) = matrix_rows (head_right h (omega arith)) (omega arith) (rw h at e)

  -- all of it is there, and more
  module _ (e : matrix_stops text ≡ false) (there : 0 < length (rest_of text)) where
    room : 9 + (size_in text).rows * line_long (size_in text).columns ≤ length text
    unfolding rest_of
    room = omega (arith, length-drop (9 + (size_in text).rows * line_long (size_in text).columns) text)

    matrix_right : (more : List ℕ) → 0 ≡ first (matrix_tests (text ++ more))
    unfolding matrix_stops first
    matrix_right more =
        let h = head_right (or_left (head_stops text) _ e) (omega (arith, room)) in
        let m : misread (size_in (text ++ more)).rows (size_in (text ++ more)).columns (drop 9 (text ++ more)) ≡ false =
        rw (size_same text more (omega (arith, room))) (rows_same text more room (or_right (head_stops text) _ e)) in
        sym (rows_right h (omega (arith, room)) more ∙ later _ 10 [] m)

    rest_same : (more : List ℕ) → rest_of (text ++ more) ≡ rest_of text ++ more
    unfolding rest_of
    rest_same more = rw (size_same text more (omega (arith, room))) (drop-append-le _ text more room)

-- ---- the whole text

-- where nothing is left there is no fault
stops_there : (text : List ℕ) → matrix_stops text ≡ true → 0 < length text
stops_there [] e = absurd (true≢false (sym e ∙ matrix_none))
stops_there (x ∷ text) e = omega arith

rest_there : (text : List ℕ) → 0 < length (rest_of text) → 0 < length text
unfolding rest_of
rest_there text l = omega (arith, length-drop (9 + (size_in text).rows * line_long (size_in text).columns) text)

module _ (text : List ℕ) where
  final_first : matrix_stops text ≡ true → Final form_tests text
  final_first e =
      let F = matrix_final text e in
      record { number = F.number; given = F.given; stays = λ more. form_first (text ++ more) F.number (F.stays more) F.given }

  module _ (one : matrix_stops text ≡ false) (there : 0 < length (rest_of text)) where
    past : (more : List ℕ) → 0 ≡ first (matrix_tests (text ++ more))
    past more = matrix_right text one there more

    behind : (more : List ℕ) → rest_of (text ++ more) ≡ rest_of text ++ more
    behind more = rest_same text one there more

    final_second : matrix_stops (rest_of text) ≡ true → Final form_tests text
    final_second e =
        let F = matrix_final (rest_of text) e in
        record {
          number = F.number;
          given = F.given;
          stays = λ more. form_second (text ++ more) 0 (past more) refl F.number (F.stays more ∙ ap (λ (t : List ℕ). first (matrix_tests t)) (sym (behind more))) F.given;
        }

    final_more : matrix_stops (rest_of text) ≡ false → 0 < length (rest_of (rest_of text)) → Final form_tests text
    final_more e l = record {
      number = 10;
      given = λ z. absurd (omega arith);
      stays = λ more. (let b = ap rest_of (behind more) ∙ rest_same (rest_of text) e l more in
          form_more (text ++ more) 0 (past more) refl 0 (matrix_right (rest_of text) e l more ∙ ap (λ (t : List ℕ). first (matrix_tests t)) (sym (behind more))) refl
          (omega (arith, ap length b, length-append (rest_of (rest_of text)) more)));
    }

  -- a text that stops the reading is refused, with one number, whatever comes after it
  pub stops_final : stops text ≡ true → Final form_tests text
  unfolding stops
  stops_final e = go (matrix_stops text) refl (matrix_stops (rest_of text)) refl
    where
      go : (a : Bool) → matrix_stops text ≡ a → (b : Bool) → matrix_stops (rest_of text) ≡ b → Final form_tests text
      go true h b k = final_first h
      go false h true k = final_second h (stops_there (rest_of text) k) k
      go false h false k =
          let l = ltb-true 0 (length (rest_of (rest_of text))) (rw (h, k) at e) in
          final_more h (rest_there (rest_of text) l) k l

-- so what is printed is the same, whatever comes after it
pub first_fault : (text more : List ℕ) → stops text ≡ true → multiply_text (text ++ more) ≡ multiply_text text
first_fault text more e =
    let F = stops_final text e in
    go F.number F.given F.stays
  where
    go : (n : ℕ) → (n ≡ 0 → ⊥) → ((rest : List ℕ) → n ≡ first (form_tests (text ++ rest))) → multiply_text (text ++ more) ≡ multiply_text text
    go zero ne h = absurd (ne refl)
    go (suc k) ne h = refused_of (text ++ more) k (sym (h more)) ∙ sym (refused_of text k (ap (λ (t : List ℕ). first (form_tests t)) (sym (append-nil text)) ∙ sym (h [])))
