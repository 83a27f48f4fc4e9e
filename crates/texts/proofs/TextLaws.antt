-- Matrices that are read out of a text. Assumes nothing.
use mathlib.Core.Path.{◌≡◌, refl, sym, ap, ◌∙◌}
use mathlib.Core.Bool.{Bool, true, false, ◌||◌}
use mathlib.Core.List.{List, [], ◌∷◌, ◌++◌}
use Prim.Native.Nat.{ℕ, ◌+◌, ◌-◌, ◌*◌, ◌^◌, ◌≤◌, ◌<◌}
use native.Mathlib.Nat.{suc-mul, mul-le-mul, mul-le-mul_right}
use native.Mathlib.Omega.{arith}
use lib.Dec.{ltb}
use lib.ListN.{length, get_or, take, drop, length-append, length-take, length-drop}
use lib.Seq.{take_all, drop-drop}
use Rattle.std.specs.Prelude.{Result, Ok, Err, IfOk, IsOk}
use Rattle.requests.specs.declared.Reason.{Reason}
use borrow.Author.Tests.{ltb-false, le-ltb, ne_eqb, eq-eqb}
use Rattle.cells.specs.Any.{any}
use Rattle.cells.proofs.AnyLaws.{or_left, or_right, any_next, any_found}
use Rattle.buffers.specs.Buffer.{planes, wide, words, joined}
use Rattle.buffers.proofs.BufferLaws.{length_tab, length_joined}
use Rattle.requests.specs.Answers.{reason_word, word, first, left, answered}
use Rattle.requests.proofs.AnswerLaws.{here, later, refused, finished, refusal_keeps, done_makes, append_given, append_none, first_none}
use Rattle.requests.proofs.WordLaws.{some_reason}
use Rattle.walk.proofs.CountLaws.{pow_small}
use Rattle.hexadecimal.specs.Line.{hex_of, unframed}
use Rattle.hexadecimal.proofs.HexLaws.{framed}
use Rattle.frames.specs.Header.{size_of, read_header_tests, read_header_means}
use Rattle.frames.specs.RowLine.{line_long, line_of, words_of, read_row_tests, read_row_means, write_row_tests, write_row_means}
use Rattle.hexadecimal.proofs.LineLaws.{hex_length}
use Rattle.texts.specs.MatrixText.{line_at, misread, words_read, lines_of, size_in, words_in, rest_of, above, head_tests, size_means, matrix_tests}
use Rattle.texts.specs.Multiply.{laid}
use Rattle.texts.proofs.LaidLaws.{joined_laid}

-- a line of another length is no frame
pub short_frame : (line : List ℕ) (n : ℕ) → (length line ≡ n + 1 → ⊥) → unframed line n ≡ true
unfolding unframed
short_frame line n ne = rw (ne_eqb (length line) (n + 1) ne)

-- ---- the header line

module _ (text : List ℕ) where
  pub size_short : length text < 9 → ◌≡◌ {A = ℕ × (ℕ × ℕ)} (10, (0, 0)) (size_means text)
  unfolding size_means head_tests read_header_tests
  size_short h =
      refused _ _ _ 10 (λ z. absurd (omega arith)) (here _ 10 _ (short_frame (take 9 text) 8 (λ e. omega (arith, length-take 9 text))))

  module _ (n r c : ℕ) (says : ◌≡◌ {A = ℕ × (ℕ × ℕ)} (n, (r, c)) (read_header_means (take 9 text))) where
    number_is : n ≡ first (read_header_tests (take 9 text))
    unfolding read_header_means answered
    number_is = ap (λ (o : ℕ × (ℕ × ℕ)). o.0) says

    pub size_refused : (n ≡ 0 → ⊥) → ◌≡◌ {A = ℕ × (ℕ × ℕ)} (n, (r, c)) (size_means text)
    unfolding size_means head_tests read_header_means
    size_refused ne =
        let z = refusal_keeps (read_header_tests (take 9 text)) (0, 0) _ n (r, c) ne says in
        ap (λ (o : ℕ × ℕ). (n, o)) z ∙ refused _ _ _ n ne (append_given (read_header_tests (take 9 text)) _ (λ e. ne (number_is ∙ e)) ∙ sym number_is)

    module _ (ok : n ≡ 0) where
      pub size_is : ◌≡◌ {A = ℕ × ℕ} (r, c) ((size_in text).rows, (size_in text).columns)
      unfolding size_in read_header_means
      size_is = (done_makes (read_header_tests (take 9 text)) (0, 0) _ (r, c) (rw ok at says)).1

      above_is : above (record { rows = r; columns = c }) ≡ above (size_in text)
      unfolding above
      above_is = ap (λ (o : ℕ × ℕ). ltb 128 o.0 || ltb 128 o.1) size_is

      after_header : first (head_tests text) ≡ first ((above (size_in text), 11) ∷ [])
      unfolding head_tests read_header_tests
      after_header = append_none (read_header_tests (take 9 text)) ((above (size_in text), 11) ∷ []) tt (sym number_is ∙ ok)

      pub size_above : true ≡ above (record { rows = r; columns = c }) → ◌≡◌ {A = ℕ × (ℕ × ℕ)} (11, (0, 0)) (size_means text)
      unfolding size_means
      size_above h = refused _ _ _ 11 (λ z. absurd (omega arith)) (after_header ∙ here _ 11 [] (sym above_is ∙ sym h))

      pub size_done : false ≡ above (record { rows = r; columns = c }) → ◌≡◌ {A = ℕ × (ℕ × ℕ)} (n, (r, c)) (size_means text)
      unfolding size_means first
      size_done h = ap (λ (k : ℕ). (k, (r, c))) ok ∙ finished _ _ _ (r, c) (after_header ∙ later _ 11 [] (sym above_is ∙ sym h)) size_is

-- texts with one header line
module _ (s t : List ℕ) (e : take 9 s ≡ take 9 t) where
  pub same_size : size_in s ≡ size_in t
  unfolding size_in
  same_size = ap size_of e

  pub same_head : head_tests s ≡ head_tests t
  unfolding head_tests size_in
  same_head = ap (λ (l : List ℕ). read_header_tests l ++ ((above (size_of l), 11) ∷ [])) e

-- ---- the lines of rows

-- what a line that was read says
pub row_read : (c : ℕ) (line ws new : List ℕ) (n : ℕ) → c ≤ 1024 → length ws ≡ wide c → ◌≡◌ {A = ℕ × List ℕ} (n, new) (read_row_means c line ws)
    → (n ≡ first ((unframed line (wide c * 16), 10) ∷ [])) × (n ≡ 0 → new ≡ words_of (wide c) line)
unfolding read_row_means read_row_tests answered left first
row_read c line ws new n small size says =
    go (unframed line (wide c * 16)) (rw (le-ltb 1024 c small, eq-eqb (length ws) (wide c) size) at says)
  where
    go : (t : Bool) → ◌≡◌ {A = ℕ × List ℕ} (n, new) (first ((t, 10) ∷ []), left (first ((t, 10) ∷ [])) ws (words_of (wide c) line)) → (n ≡ first ((t, 10) ∷ [])) × (n ≡ 0 → new ≡ words_of (wide c) line)
    go true e = (ap (λ (o : ℕ × List ℕ). o.0) e, λ z. absurd (let y : n ≡ 10 = ap (λ (o : ℕ × List ℕ). o.0) e in omega arith))
    go false e = (ap (λ (o : ℕ × List ℕ). o.0) e, λ z. ap (λ (o : ℕ × List ℕ). o.1) e)

-- an answer of no frame, by the one test that says so
pub no_frame : (t : Bool) (r : Reason) → reason_word r ≡ first ((t, 10) ∷ []) → t ≡ true
unfolding first
no_frame true r e = refl
no_frame false r e = absurd (some_reason r e)

pub frame : (t : Bool) → 0 ≡ first ((t, 10) ∷ []) → t ≡ false
unfolding first
frame true e = absurd (omega arith)
frame false e = refl

pub no_fault : (t : Bool) → t ≡ false → 0 ≡ first ((t, 10) ∷ [])
unfolding first
no_fault t e = rw e

-- what holds where an answer's word is 0
pub done_so : {T : Type 0} (a : Result T Reason) (P : Type 0) → (word a ≡ 0 → P) → IfOk a (λ x. P)
done_so (Ok x) P h = h refl
done_so (Err r) P h = tt

pub done_ok : {T : Type 0} (a : Result T Reason) → word a ≡ 0 → IsOk a
done_ok (Ok x) e = refl
done_ok (Err r) e = absurd (some_reason r e)

-- what is left of a text from a place on
pub tail : (text : List ℕ) (n : ℕ) → n ≤ length text → take (length text - n) (drop n text) ≡ drop n text
tail text n h = take_all (length text - n) (drop n text) (omega (arith, length-drop n text))

pub part_long : (xs : List ℕ) (at k n : ℕ) → k ≡ n → at + n ≤ length xs → length (take k (drop at xs)) ≡ n
part_long xs at k n e h = length-take k (drop at xs) ∙ omega (arith, e, length-drop at xs)

pub line_at_lem : (c : ℕ) (text : List ℕ) (start i : ℕ) → line_at c (drop start text) i ≡ take (line_long c) (drop (start + i * line_long c) text)
unfolding line_at
line_at_lem c text start i = ap (λ (l : List ℕ). take (line_long c) l) (drop-drop (i * line_long c) start text)

-- line i, as the code has it
pub line_is : (c : ℕ) (text : List ℕ) (i line : ℕ) → line ≡ line_long c → i * line ≤ length text → take (line_long c) (take (length text - i * line) (drop (i * line) text)) ≡ line_at c text i
unfolding line_at
line_is c text i line e h =
    ap (λ (t : List ℕ). take (line_long c) t) (tail text (i * line) h) ∙ ap (λ (k : ℕ). take (line_long c) (drop (i * k) text)) e

pub misread_none : (c : ℕ) (text : List ℕ) → misread 0 c text ≡ false
unfolding misread any
misread_none c text = refl

pub misread_more : (c : ℕ) (text : List ℕ) (i : ℕ) → misread i c text ≡ false → unframed (line_at c text i) (wide c * 16) ≡ false → misread (i + 1) c text ≡ false
unfolding misread any
misread_more c text i h e = any_next (λ i. unframed (line_at c text i) (wide c * 16)) i h e

pub misread_stop : (c : ℕ) (text : List ℕ) (i r : ℕ) → i < r → unframed (line_at c text i) (wide c * 16) ≡ true → misread r c text ≡ true
unfolding misread any
misread_stop c text i r l e = any_found (λ i. unframed (line_at c text i) (wide c * 16)) i r l e

pub words_long : (r c : ℕ) (text : List ℕ) → length (words_read r c text) ≡ r * wide c
unfolding words_read words_of
words_long r c text = length_joined r (wide c) _ (λ i. length_tab (wide c) _)

pub words_more : (c : ℕ) (text : List ℕ) (i w k : ℕ) (held old row : List ℕ) → w ≡ wide c → k ≡ w → held ≡ laid (words_read i c text) old → row ≡ words_of (wide c) (line_at c text i)
    → take (i * w) held ++ (row ++ drop k (drop (i * w) held)) ≡ laid (words_read (i + 1) c text) old
unfolding words_read words_of
words_more c text i w k held old row e f h g =
    joined_laid (λ i. words_of (wide c) (line_at c text i)) i w k held old row (λ j. length_tab (wide c) _ ∙ sym e) f h g

-- ---- a whole matrix

module _ (text : List ℕ) (n r c : ℕ) (says : ◌≡◌ {A = ℕ × (ℕ × ℕ)} (n, (r, c)) (size_means text)) where
  pub head_is : n ≡ first (head_tests text)
  unfolding size_means answered
  head_is = ap (λ (o : ℕ × (ℕ × ℕ)). o.0) says

  pub head_refused : (n ≡ 0 → ⊥) → n ≡ first (matrix_tests text)
  unfolding matrix_tests
  head_refused ne = head_is ∙ sym (append_given (head_tests text) _ (λ e. ne (head_is ∙ e)))

  module _ (ok : n ≡ 0) where
    pub head_size : ◌≡◌ {A = ℕ × ℕ} (r, c) ((size_in text).rows, (size_in text).columns)
    unfolding size_means
    head_size = (done_makes (head_tests text) (0, 0) _ (r, c) (rw ok at says)).1

    rows_say : r ≡ (size_in text).rows
    rows_say = ap (λ (o : ℕ × ℕ). o.0) head_size

    columns_say : c ≡ (size_in text).columns
    columns_say = ap (λ (o : ℕ × ℕ). o.1) head_size

    not_above : (above (size_in text) ≡ false)
    unfolding head_tests read_header_tests
    not_above = (first_none (head_tests text) tt (sym head_is ∙ ok)).1.1.0

    -- there is room for the header line
    pub head_within : 9 ≤ length text
    unfolding head_tests read_header_tests
    head_within =
        let F = framed (take 9 text) 8 (first_none (head_tests text) tt (sym head_is ∙ ok)).0 in
        omega (arith, F.long, length-take 9 text)

    pub head_few : r ≤ 128
    unfolding above
    head_few = rw rows_say (ltb-false 128 (size_in text).rows (or_left _ _ not_above))

    pub head_narrow : c ≤ 128
    unfolding above
    head_narrow = rw columns_say (ltb-false 128 (size_in text).columns (or_right (ltb 128 (size_in text).rows) _ not_above))

    pub after_head : first (matrix_tests text) ≡ first ((misread r c (drop 9 text), 10) ∷ [])
    unfolding matrix_tests head_tests read_header_tests
    after_head = append_none (head_tests text) _ tt (sym head_is ∙ ok) ∙ ap (λ (o : ℕ × ℕ). first ((misread o.0 o.1 (drop 9 text), 10) ∷ [])) (sym head_size)

    pub rest_is : rest_of text ≡ drop (9 + r * line_long c) text
    unfolding rest_of
    rest_is = ap (λ (o : ℕ × ℕ). drop (9 + o.0 * line_long o.1) text) (sym head_size)

    pub words_are : words_in text ≡ words_read r c (drop 9 text)
    unfolding words_in
    words_are = ap (λ (o : ℕ × ℕ). words_read o.0 o.1 (drop 9 text)) (sym head_size)

-- ---- how many words and bytes there are

-- one of r parts of one length lies within them
pub part_within : (i r w : ℕ) → i < r → i * w + w ≤ r * w
part_within i r w l = rw (← suc-mul i w) (mul-le-mul_right w l)

pub row_room : (i r c w n : ℕ) → w ≡ wide c → n ≡ words r c → i < r → i * w + w ≤ n
unfolding words
row_room i r c w n e f l = rw (e, f) (part_within i r (wide c) l)

pub line_room : (i r c line n : ℕ) → line ≡ line_long c → n ≡ r * line_long c → i < r → i * line + line ≤ n
line_room i r c line n e f l = rw (e, f) (part_within i r (line_long c) l)

-- within the limit
pub few_words : (r c q : ℕ) → r ≤ 128 → c ≤ 128 → q ≡ planes c → (q ≤ 2) × (r * (2 * q) ≤ 512) × (r * (2 * q * 16 + 1) ≤ 8320)
unfolding planes
few_words r c q few narrow e =
    let h : q ≤ 2 = omega arith in
    (h, mul-le-mul {n₂ = 128} {m₂ = 4} few (omega arith), mul-le-mul {n₂ = 128} {m₂ = 65} few (omega arith))

pub limit_words : (r c : ℕ) → r ≤ 128 → c ≤ 128 → r * wide c ≤ 512
unfolding wide planes
limit_words r c few narrow = mul-le-mul {n₂ = 128} {m₂ = 4} few (omega arith)

pub limit_lines : (r c : ℕ) → r ≤ 128 → c ≤ 128 → r * line_long c ≤ 8320
unfolding line_long wide planes
limit_lines r c few narrow = mul-le-mul {n₂ = 128} {m₂ = 65} few (omega arith)

-- a table of the widest default
pub table_small : (k c : ℕ) → k ≤ 8 → c ≤ 128 → words (2 ^ k) c ≤ 1024
unfolding words wide planes
table_small k c h narrow = mul-le-mul {n₂ = 256} {m₂ = 4} (pow_small k h) (omega arith)

-- ---- lines that are written

pub line_long_lem : (w : ℕ) (ws : List ℕ) → length (line_of w ws) ≡ w * 16 + 1
unfolding line_of
line_long_lem w ws = length-append (joined w (λ p. hex_of 16 (get_or ws p 0))) (10 ∷ []) ∙ ap (λ (n : ℕ). n + 1) (length_joined w 16 _ (λ p. hex_length 16 (get_or ws p 0)))

pub row_written : (c : ℕ) (ws line new : List ℕ) (n : ℕ) → c ≤ 1024 → length ws ≡ wide c → length line ≡ line_long c → ◌≡◌ {A = ℕ × List ℕ} (n, new) (write_row_means c ws line) → (n ≡ 0) × (new ≡ line_of (wide c) ws)
unfolding write_row_means write_row_tests line_long answered left first
row_written c ws line new n small size room says =
    let e = rw (le-ltb 1024 c small, eq-eqb (length ws) (wide c) size, eq-eqb (length line) (wide c * 16 + 1) room) at says in
    (ap (λ (o : ℕ × List ℕ). o.0) e, ap (λ (o : ℕ × List ℕ). o.1) e)

pub lines_long : (r c : ℕ) (ws : List ℕ) → length (lines_of r c ws) ≡ r * line_long c
unfolding lines_of line_long
lines_long r c ws = length_joined r (wide c * 16 + 1) _ (λ i. line_long_lem (wide c) _)

pub lines_more : (c : ℕ) (ws : List ℕ) (i w line k : ℕ) (held old new : List ℕ) → w ≡ wide c → line ≡ line_long c → k ≡ line → held ≡ laid (lines_of i c ws) old → new ≡ line_of (wide c) (take w (drop (i * w) ws))
    → take (i * line) held ++ (new ++ drop k (drop (i * line) held)) ≡ laid (lines_of (i + 1) c ws) old
unfolding lines_of line_long
lines_more c ws i w line k held old new e f d h g =
    joined_laid (λ i. line_of (wide c) (take (wide c) (drop (i * wide c) ws))) i line k held old new (λ j. line_long_lem (wide c) _ ∙ sym f) d h (rw e at g)
