-- Where the reading stops: the definition's laws, and the code's way through it. Assumes nothing.
use mathlib.Core.Path.{◌≡◌, refl, sym, ap, ◌∙◌}
use mathlib.Core.Bool.{Bool, true, false, not, ◌||◌}
use mathlib.Core.List.{List, []}
use Prim.Native.Nat.{ℕ, zero, suc, ◌+◌, ◌-◌, ◌*◌, ◌≤◌, ◌<◌}
use native.Mathlib.Omega.{arith}
use lib.Dec.{ltb, eqb}
use Rattle.std.specs.Prelude.{Option, None, Some, MatchOption}
use Rattle.std.specs.Borrow.{Bor}
use lib.ListN.{length, take, drop, length-drop, drop_of_length-le}
use lib.Seq.{drop-nil}
use borrow.Author.Tests.{lt-ltb, le-ltb, ne_eqb}
use Rattle.cells.specs.Any.{any}
use Rattle.cells.proofs.AnyLaws.{or_yes, any_none, any_next, any_found}
use Rattle.buffers.specs.Buffer.{wide}
use Rattle.requests.specs.Answers.{first}
use Rattle.hexadecimal.specs.Line.{undigit, unframed}
use Rattle.frames.specs.RowLine.{line_long}
use Rattle.texts.specs.MatrixText.{line_at, size_in, rest_of, head_tests, size_means}
use Rattle.texts.specs.Stops.{line_stops, head_stops, row_stops, rows_stop, matrix_stops, stops}
use Rattle.texts.proofs.TextLaws.{head_is, head_size}

-- ---- one line, of n digits and byte 10

module _ (n : ℕ) (text : List ℕ) where
  abbrev bad : Bool
  bad = unframed (take (n + 1) text) n

  pub line_short : length text < n + 1 → line_stops (n + 1) bad text ≡ undigit text (length text)
  unfolding line_stops
  line_short h = rw (lt-ltb (length text) (n + 1) h)

  pub line_whole : n + 1 ≤ length text → line_stops (n + 1) bad text ≡ bad
  unfolding line_stops
  line_whole h = rw (le-ltb (length text) (n + 1) h)

-- nothing is there of a line
pub line_none : (k : ℕ) (bad : Bool) → 0 < k → line_stops k bad [] ≡ false
unfolding line_stops undigit any
line_none k bad h = rw (lt-ltb 0 k h)

-- ---- where nothing is there

-- the rows of a header that is not there
module _ (text : List ℕ) where
  pub head_none : length text < 9 → rows_stop (size_in text).rows (size_in text).columns (drop 9 text) ≡ false
  unfolding rows_stop row_stops line_long
  head_none h =
      let e : drop 9 text ≡ [] = drop_of_length-le text {i = 9} (omega arith) in
      any_none _ (size_in text).rows (λ i l. rw (e, drop-nil {A = ℕ} (i * (wide (size_in text).columns * 16 + 1))) (line_none (wide (size_in text).columns * 16 + 1) _ (omega arith)))

pub matrix_none : matrix_stops [] ≡ false
unfolding matrix_stops head_stops
matrix_none = rw (line_none 9 (ltb 0 (first (head_tests []))) (omega arith)) (head_none [] (omega arith))

rest_none : rest_of [] ≡ []
unfolding rest_of
rest_none = drop-nil {A = ℕ} (9 + (size_in []).rows * line_long (size_in []).columns)

-- before the first byte there is no fault
pub stops_none : stops [] ≡ false
unfolding stops
stops_none = rw (rest_none, rest_none, matrix_none)

-- ---- the code's way

-- a line that was looked at, as the code has it
pub row_seen : (c : ℕ) (text at : List ℕ) (i line : ℕ) (b : Bool) → line ≡ line_long c → at ≡ drop (i * line) text → b ≡ line_stops (line - 1 + 1) (unframed (take (line - 1 + 1) at) (line - 1)) at
    → b ≡ row_stops c (drop (i * line_long c) text)
unfolding row_stops line_long
row_seen c text at i line b e f h =
    let n : line - 1 ≡ wide c * 16 = omega (arith, e) in
    h ∙ rw (f, n, e)

pub rows_none : (c : ℕ) (text : List ℕ) → rows_stop 0 c text ≡ false
unfolding rows_stop any
rows_none c text = refl

pub rows_more : (c : ℕ) (text : List ℕ) (i : ℕ) → rows_stop i c text ≡ false → row_stops c (drop (i * line_long c) text) ≡ false → rows_stop (i + 1) c text ≡ false
unfolding rows_stop any
rows_more c text i h e = any_next (λ i. row_stops c (drop (i * line_long c) text)) i h e

pub rows_found : (c : ℕ) (text : List ℕ) (i r : ℕ) → i < r → row_stops c (drop (i * line_long c) text) ≡ true → rows_stop r c text ≡ true
unfolding rows_stop any
rows_found c text i r l e = any_found (λ i. row_stops c (drop (i * line_long c) text)) i r l e

-- ---- a line that is all there, and bad, stops the reading

above_none : (n : ℕ) → (n ≡ 0 → ⊥) → ltb 0 n ≡ true
above_none zero ne = absurd (ne refl)
above_none (suc n) ne = lt-ltb 0 (suc n) (omega arith)

module _ (text : List ℕ) where
  pub bad_header : 9 ≤ length text → (first (head_tests text) ≡ 0 → ⊥) → matrix_stops text ≡ true
  unfolding matrix_stops head_stops line_stops
  bad_header room ne = rw (le-ltb (length text) 9 room, above_none (first (head_tests text)) ne)

  pub bad_row : (i : ℕ) → i < (size_in text).rows → 9 + (i * line_long (size_in text).columns + line_long (size_in text).columns) ≤ length text
      → unframed (line_at (size_in text).columns (drop 9 text) i) (wide (size_in text).columns * 16) ≡ true → matrix_stops text ≡ true
  unfolding matrix_stops line_at row_stops line_long
  bad_row i l room e =
      let w = wide (size_in text).columns * 16 in
      let long : w + 1 ≤ length (drop (i * (w + 1)) (drop 9 text)) = omega (arith, length-drop (i * (w + 1)) (drop 9 text), length-drop 9 text) in
      or_yes (head_stops text) _ (rows_found (size_in text).columns (drop 9 text) i (size_in text).rows l (line_whole w (drop (i * (w + 1)) (drop 9 text)) long ∙ e))

  -- in A, in B, and any byte after B
  pub bad_first : matrix_stops text ≡ true → stops text ≡ true
  unfolding stops
  bad_first e = rw e

  pub bad_second : matrix_stops (rest_of text) ≡ true → stops text ≡ true
  unfolding stops
  bad_second e = rw e (or_yes (matrix_stops text) true refl)

  pub bad_end : 0 < length (rest_of (rest_of text)) → stops text ≡ true
  unfolding stops
  bad_end l = or_yes (matrix_stops text) _ (or_yes (matrix_stops (rest_of text)) _ (lt-ltb 0 (length (rest_of (rest_of text))) l))

-- ---- a matrix that was looked at, from a place of the text on

module _ (text : List ℕ) where
  -- less than a header line is there
  pub seen_short : (b : Bool) → length text < 9 → b ≡ undigit text (length text) → b ≡ matrix_stops text
  unfolding matrix_stops head_stops line_stops
  seen_short b h e = e ∙ go (undigit text (length text)) ∙ sym (rw (head_none text h, lt-ltb (length text) 9 h))
    where
      go : (u : Bool) → u ≡ (u || false)
      go true = refl
      go false = refl

  pub rest_short : length text < 9 → rest_of text ≡ []
  unfolding rest_of
  rest_short h = drop_of_length-le text {i = 9 + (size_in text).rows * line_long (size_in text).columns} (omega arith)

  module _ (n r c : ℕ) (says : ◌≡◌ {A = ℕ × (ℕ × ℕ)} (n, (r, c)) (size_means text)) (room : 9 ≤ length text) where
    pub seen_refused : (n ≡ 0 → ⊥) → true ≡ matrix_stops text
    seen_refused ne = sym (bad_header text room (λ e. ne (head_is text n r c says ∙ e)))

    pub seen_rows : n ≡ 0 → rows_stop r c (drop 9 text) ≡ matrix_stops text
    unfolding matrix_stops head_stops line_stops
    seen_rows ok =
        let e : ltb 0 (first (head_tests text)) ≡ false = le-ltb 0 (first (head_tests text)) (omega (arith, head_is text n r c says)) in
        rw (le-ltb (length text) 9 room, e) (ap (λ (o : ℕ × ℕ). rows_stop o.0 o.1 (drop 9 text)) (head_size text n r c says ok))

-- ---- the whole text that was looked at

not_empty : (n : ℕ) → not (eqb n 0) ≡ ltb 0 n
not_empty zero = refl
not_empty (suc n) = rw (ne_eqb (suc n) 0 (λ z. omega arith), lt-ltb 0 (suc n) (omega arith))

-- what comes after a matrix, where it does not stop the reading
abbrev pub Past : List ℕ → Option (Bor (List ℕ)) → Type 0
Past text a = MatchOption a (matrix_stops text ≡ true) (λ rest. (matrix_stops text ≡ false) × (rest.now ≡ rest_of text))

pub past_both : (text : List ℕ) (a b : Option (Bor (List ℕ))) → Past text a → MatchOption a (b ≡ None) (λ second. Past second.now b)
    → MatchOption b (true ≡ stops text) (λ rest. not (eqb (length rest.now) 0) ≡ stops text)
unfolding stops
past_both text None None h k = sym (bad_first text h)
past_both text None (Some rest) h k = absurd (let z = k in cc)
past_both text (Some second) None h k = sym (bad_second text (ap matrix_stops (sym h.1) ∙ k))
past_both text (Some second) (Some rest) h k = rw (h.0, ← h.1, k.0, ← k.1) (not_empty (length rest.now))
