-- Reading what was written gives the same counts and words, and writing what was read gives the same line, for every size. Assumes nothing.
use mathlib.Core.Path.{◌≡◌, refl, sym, ap, ap₂, ◌∙◌}
use mathlib.Core.Bool.{Bool, false, not}
use mathlib.Core.List.{List, [], ◌∷◌, ◌++◌, append_assoc}
use Prim.Native.Nat.{ℕ, suc, ◌+◌, ◌-◌, ◌*◌, ◌/◌, ◌%◌, ◌≤◌, ◌<◌}
use native.Mathlib.Decide.{dec_lt}
use native.Mathlib.Omega.{arith}
use lib.Dec.{eqb}
use lib.ListN.{length, get_or, length-append, get_or-append}
use lib.Seq.{get_or-append-add, get_or_at, ext_get_or}
use borrow.Author.Tests.{le-ltb, eq-eqb}
use Rattle.buffers.specs.Buffer.{wide, Words, tab, joined}
use Rattle.buffers.proofs.BufferLaws.{length_tab, get_d_tab, length_joined}
use Rattle.requests.specs.declared.Size.{Size}
use Rattle.requests.specs.Answers.{first}
use Rattle.requests.specs.Sizes.{over}
use Rattle.requests.proofs.AnswerLaws.{finished, first_none, later, none_first}
use Rattle.requests.proofs.SizeLaws.{over_rows, over_columns}
use Rattle.hexadecimal.specs.Digit.{byte_of, nibble}
use Rattle.hexadecimal.specs.Line.{hex_of, value_of, unframed}
use Rattle.frames.specs.Header.{header_of, size_of, read_header_tests, read_header_means, write_header_tests, write_header_means}
use Rattle.frames.specs.RowLine.{line_long, line_of, words_of, read_row_tests, read_row_means, write_row_tests, write_row_means}
use Rattle.hexadecimal.proofs.HexLaws.{Framed, framed}
use Rattle.hexadecimal.proofs.DigitLaws.{Says, value_said, byte_value, nibble_lt, framed_line}
use Rattle.hexadecimal.proofs.LineLaws.{Filled, hex_length, hex_filled, end_length, end_front, same_line}
use Rattle.frames.proofs.HeaderLaws.{header_over, header_read, header_eight}
use Rattle.frames.proofs.RowLineLaws.{byte_at, row_filled}

-- ---- rows

module _ (w : ℕ) (ws : List ℕ) where
  text_length : length (joined w (λ p. hex_of 16 (get_or ws p 0))) ≡ w * 16
  text_length = length_joined w 16 (λ p. hex_of 16 (get_or ws p 0)) (λ p. hex_length 16 (get_or ws p 0))

  line_length : length (line_of w ws) ≡ w * 16 + 1
  unfolding line_of
  line_length = end_length (joined w (λ p. hex_of 16 (get_or ws p 0))) (w * 16) text_length

  line_at_lem : Filled (byte_at ws) (w * 16) (line_of w ws)
  unfolding line_of
  line_at_lem = end_front (joined w (λ p. hex_of 16 (get_or ws p 0))) (w * 16) (byte_at ws) text_length (row_filled w ws)

  line_end : get_or (line_of w ws) (w * 16) 0 ≡ 10
  unfolding line_of
  line_end = get_or_at (joined w (λ p. hex_of 16 (get_or ws p 0))) 10 [] 0 (w * 16) text_length

  pub line_framed : unframed (line_of w ws) (w * 16) ≡ false
  line_framed = framed_line (line_of w ws) (w * 16) (λ k. nibble (get_or ws (k / 16) 0) (15 - k % 16)) line_length line_at_lem (λ k. nibble_lt (get_or ws (k / 16) 0) (15 - k % 16)) line_end

  line_says : (p : ℕ) → p < w → Says (line_of w ws) (p * 16) 16 (get_or ws p 0)
  line_says p l k m =
      let d : (p * 16 + k) / 16 ≡ p = omega arith in
      let r : 15 - (p * 16 + k) % 16 ≡ 16 - suc k = omega arith in
      line_at_lem (p * 16 + k) (omega arith) ∙ ap₂ (λ (q t : ℕ). byte_of (nibble (get_or ws q 0) t)) d r

  -- the words read back
  pub words_line : length ws ≡ w → Words ws → words_of w (line_of w ws) ≡ ws
  unfolding words_of
  words_line long small =
      ext_get_or 0 (tab w (λ p. value_of (line_of w ws) (p * 16) 16)) ws (length_tab w (λ p. value_of (line_of w ws) (p * 16) 16) ∙ sym long)
      (λ p l. (let m : p < w = omega (arith, length_tab w (λ p. value_of (line_of w ws) (p * 16) 16)) in get_d_tab w (λ p. value_of (line_of w ws) (p * 16) 16) p m ∙ value_said (line_of w ws) (p * 16) 16 (get_or ws p 0) (line_says p m) (small p)))

-- the line written back
pub line_words : (w : ℕ) (line : List ℕ) → unframed line (w * 16) ≡ false → line_of w (words_of w line) ≡ line
unfolding line_of words_of
line_words w line h =
    same_line (joined w (λ p. hex_of 16 (get_or (words_of w line) p 0))) line (w * 16) (byte_at (words_of w line)) (text_length w (words_of w line)) (row_filled w (words_of w line)) F (λ k l. sym (at k l))
  where
    F : Framed line (w * 16)
    F = framed line (w * 16) h

    at : (k : ℕ) → k < w * 16 → byte_at (words_of w line) k ≡ get_or line k 0
    at k l =
        let p : k / 16 < w = omega arith in
        let t : 15 - k % 16 ≡ 16 - suc (k % 16) = omega arith in
        let e : k / 16 * 16 + k % 16 ≡ k = omega arith in
        ap₂ (λ (v s : ℕ). byte_of (nibble v s)) (get_d_tab w (λ q. value_of line (q * 16) 16) (k / 16) p) t
        ∙ byte_value line (k / 16 * 16) 16 (λ i m. F.digits (k / 16 * 16 + i) (omega arith)) (k % 16) (omega arith)
        ∙ ap (λ (i : ℕ). get_or line i 0) e

-- reading the line of a row's words answers done and gives the words; a row's words written after they were read give the line
pub read_written_row : (c : ℕ) (ws old : List ℕ) → c ≤ 1024 → length ws ≡ wide c → Words ws → length old ≡ wide c → ◌≡◌ {A = ℕ × List ℕ} (0, ws) (read_row_means c (line_of (wide c) ws) old)
unfolding read_row_means read_row_tests first
read_written_row c ws old small long fit room =
    finished _ _ _ ws (rw (le-ltb 1024 c small, eq-eqb (length old) (wide c) room, line_framed (wide c) ws)) (sym (words_line (wide c) ws long fit))

pub written_read_row : (c : ℕ) (line old : List ℕ) → c ≤ 1024 → unframed line (wide c * 16) ≡ false → length old ≡ wide c * 16 + 1 → ◌≡◌ {A = ℕ × List ℕ} (0, line) (write_row_means c (words_of (wide c) line) old)
unfolding write_row_means write_row_tests line_long first words_of
written_read_row c line old small h room =
    finished _ _ _ line (rw (le-ltb 1024 c small, length_tab (wide c) (λ p. value_of line (p * 16) 16), eq-eqb (wide c) (wide c) refl, eq-eqb (length old) (wide c * 16 + 1) room)) (sym (line_words (wide c) line h))

-- ---- headers

eight_framed : (v : ℕ) → unframed (hex_of 8 v ++ (10 ∷ [])) 8 ≡ false
eight_framed v =
    framed_line (hex_of 8 v ++ (10 ∷ [])) 8 (λ k. nibble v (8 - suc k)) (end_length (hex_of 8 v) 8 (hex_length 8 v))
    (end_front (hex_of 8 v) 8 (λ k. byte_of (nibble v (8 - suc k))) (hex_length 8 v) (hex_filled 8 v)) (λ k. nibble_lt v (8 - suc k)) (get_or_at (hex_of 8 v) 10 [] 0 8 (hex_length 8 v))

-- what stands behind the first four digits
behind : (r : ℕ) (ys : List ℕ) (k : ℕ) → get_or (hex_of 4 r ++ ys) (4 + k) 0 ≡ get_or ys k 0
behind r ys k = ap (λ (n : ℕ). get_or (hex_of 4 r ++ ys) (n + k) 0) (sym (hex_length 4 r)) ∙ get_or-append-add (hex_of 4 r) ys k 0

rows_says : (s : Size) → Says (header_of s) 0 4 s.rows
unfolding header_of
rows_says s k l =
    let e : 0 + k ≡ k = omega arith in
    rw e (get_or-append (hex_of 4 s.rows) (hex_of 4 s.columns ++ (10 ∷ [])) 0 k (omega (arith, hex_length 4 s.rows)) ∙ hex_filled 4 s.rows k l)

columns_says : (s : Size) → Says (header_of s) 4 4 s.columns
unfolding header_of
columns_says s k l =
    behind s.rows (hex_of 4 s.columns ++ (10 ∷ [])) k
    ∙ end_front (hex_of 4 s.columns) 4 (λ i. byte_of (nibble s.columns (4 - suc i))) (hex_length 4 s.columns) (hex_filled 4 s.columns) k l

-- reading the header of a size answers done and gives its counts; a size written after it was read gives the line
pub read_written_header : (s : Size) → over s ≡ false → ◌≡◌ {A = ℕ × (ℕ × ℕ)} (0, (s.rows, s.columns)) (read_header_means (header_of s))
unfolding read_header_means read_header_tests first
read_written_header s h =
    finished _ _ _ (s.rows, s.columns) (rw (f, o)) (header_read (header_of s) s.rows s.columns r c)
  where
    f : unframed (header_of s) 8 ≡ false
    f = ap (λ (l : List ℕ). unframed l 8) (sym (header_eight s (over_rows s h) (over_columns s h))) ∙ eight_framed (s.rows * 65536 + s.columns)

    r : s.rows ≡ value_of (header_of s) 0 4
    r = sym (value_said (header_of s) 0 4 s.rows (rows_says s) (omega (arith, over_rows s h)))

    c : s.columns ≡ value_of (header_of s) 4 4
    c = sym (value_said (header_of s) 4 4 s.columns (columns_says s) (omega (arith, over_columns s h)))

    o : over (size_of (header_of s)) ≡ false
    o = header_over (header_of s) s.rows s.columns r c h

pub header_line : (line : List ℕ) → unframed line 8 ≡ false → header_of (size_of line) ≡ line
unfolding header_of size_of
header_line line h =
    sym (append_assoc (hex_of 4 R) (hex_of 4 C) (10 ∷ [])) ∙ same_line (hex_of 4 R ++ hex_of 4 C) line 8 (λ k. get_or line k 0) long (λ k l. at k l (dec_lt k 4)) F (λ k l. refl)
  where
    R : ℕ
    R = value_of line 0 4

    C : ℕ
    C = value_of line 4 4

    F : Framed line 8
    F = framed line 8 h

    long : length (hex_of 4 R ++ hex_of 4 C) ≡ 8
    long = length-append (hex_of 4 R) (hex_of 4 C) ∙ omega (arith, hex_length 4 R, hex_length 4 C)

    at : (k : ℕ) → k < 8 → Dec (k < 4) → get_or (hex_of 4 R ++ hex_of 4 C) k 0 ≡ get_or line k 0
    at k l (yes m) =
        let e : 0 + k ≡ k = omega arith in
        get_or-append (hex_of 4 R) (hex_of 4 C) 0 k (omega (arith, hex_length 4 R)) ∙ hex_filled 4 R k m
        ∙ byte_value line 0 4 (λ i j. F.digits (0 + i) (omega arith)) k m ∙ ap (λ (i : ℕ). get_or line i 0) e
    at k l (no m) =
        let e : 4 + (k - 4) ≡ k = omega arith in
        ap (λ (i : ℕ). get_or (hex_of 4 R ++ hex_of 4 C) i 0) (sym e) ∙ behind R (hex_of 4 C) (k - 4) ∙ hex_filled 4 C (k - 4) (omega arith)
        ∙ byte_value line 4 4 (λ i j. F.digits (4 + i) (omega arith)) (k - 4) (omega arith) ∙ ap (λ (i : ℕ). get_or line i 0) e

pub written_read_header : (line old : List ℕ) → first (read_header_tests line) ≡ 0 → length old ≡ 9 → ◌≡◌ {A = ℕ × List ℕ} (0, line) (write_header_means (size_of line) old)
unfolding write_header_means write_header_tests read_header_tests
written_read_header line old h room =
    let z = first_none ((unframed line 8, 10) ∷ (over (size_of line), 1) ∷ []) tt h in
    finished _ _ _ line (none (over (size_of line)) (length old) z.1.0 room) (sym (header_line line z.0))
  where
    none : (b : Bool) (n : ℕ) → b ≡ false → n ≡ 9 → first ((b, 1) ∷ (not (eqb n 9), 4) ∷ []) ≡ 0
    none b n e f = later b 1 ((not (eqb n 9), 4) ∷ []) e ∙ later (not (eqb n 9)) 4 [] (rw (eq-eqb n 9 f)) ∙ none_first [] tt
