-- The words of a row and their line. Assumes nothing.
use mathlib.Core.Path.{◌≡◌, sym, ap₂, ◌∙◌}
use mathlib.Core.Bool.{not, ◌||◌}
use mathlib.Core.List.{List, [], ◌∷◌}
use Prim.Native.Nat.{ℕ, suc, ◌+◌, ◌-◌, ◌*◌, ◌/◌, ◌%◌, ◌≤◌, ◌<◌}
use native.Mathlib.Omega.{arith}
use lib.Dec.{ltb, eqb}
use lib.ListN.{length, get_or, set}
use lib.Seq.{ext_get_or}
use borrow.Author.Tests.{ltb-false, eqb-true, not-false}
use Rattle.cells.proofs.AnyLaws.{or_left, or_right}
use Rattle.buffers.specs.Buffer.{wide, tab, joined}
use Rattle.buffers.proofs.SizeLaws.{planes_le}
use Rattle.buffers.proofs.BufferLaws.{length_tab, get_d_tab, length_joined, get_d_joined, by_row}
use Rattle.requests.specs.Answers.{first}
use Rattle.requests.proofs.AnswerLaws.{first_none}
use Rattle.hexadecimal.specs.Digit.{byte_of, nibble}
use Rattle.hexadecimal.specs.Line.{hex_of, value_of, unframed}
use Rattle.frames.specs.RowLine.{line_long, line_of, words_of, read_row_tests, write_row_tests}
use Rattle.hexadecimal.proofs.HexLaws.{Framed, framed}
use Rattle.hexadecimal.proofs.LineLaws.{Filled, filled_end, hex_length, hex_filled}

pub wide_le : (c : ℕ) → c ≤ 1024 → wide c ≤ 32
unfolding wide
wide_le c h = omega (arith, planes_le c h)

-- byte k of a line: digit 15 - k % 16 of word k / 16
abbrev pub byte_at : List ℕ → ℕ → ℕ
byte_at ws k = byte_of (nibble (get_or ws (k / 16) 0) (15 - k % 16))

pub row_filled : (w : ℕ) (ws : List ℕ) → Filled (byte_at ws) (w * 16) (joined w (λ p. hex_of 16 (get_or ws p 0)))
row_filled w ws = by_row (λ n. get_or (joined w (λ p. hex_of 16 (get_or ws p 0))) n 0 ≡ byte_at ws n) w 16 (λ i k l m. at i k l m)
  where
    at : (i k : ℕ) → i < w → k < 16 → get_or (joined w (λ p. hex_of 16 (get_or ws p 0))) (i * 16 + k) 0 ≡ byte_at ws (i * 16 + k)
    at i k l m =
        let d : (i * 16 + k) / 16 ≡ i = omega arith in
        let r : 15 - (i * 16 + k) % 16 ≡ 16 - suc k = omega arith in
        get_d_joined w 16 (λ p. hex_of 16 (get_or ws p 0)) (λ p. hex_length 16 (get_or ws p 0)) i k l m ∙ hex_filled 16 (get_or ws i 0) k m
        ∙ ap₂ (λ (p t : ℕ). byte_of (nibble (get_or ws p 0) t)) (sym d) (sym r)

pub row_written : (w : ℕ) (ws line : List ℕ) → length line ≡ w * 16 + 1 → Filled (byte_at ws) (w * 16) line → set line (w * 16) 10 ≡ line_of w ws
unfolding line_of
row_written w ws line long h =
    filled_end (byte_at ws) (w * 16) line (joined w (λ p. hex_of 16 (get_or ws p 0))) long h (length_joined w 16 (λ p. hex_of 16 (get_or ws p 0)) (λ p. hex_length 16 (get_or ws p 0))) (row_filled w ws)

pub row_read : (w : ℕ) (line ws : List ℕ) → length ws ≡ w → Filled (λ p. value_of line (p * 16) 16) w ws → ws ≡ words_of w line
unfolding words_of
row_read w line ws long h =
    ext_get_or 0 ws (tab w (λ p. value_of line (p * 16) 16)) (long ∙ sym (length_tab w (λ p. value_of line (p * 16) 16)))
    (λ i l. h i (omega arith) ∙ sym (get_d_tab w (λ p. value_of line (p * 16) 16) i (omega arith)))

-- ---- what the tests leave

pub record Readable (c : ℕ) (line : List ℕ) (n : ℕ) : Type 0 where
  pub small : c ≤ 1024
  pub size : n ≡ wide c
  pub frame : Framed line (wide c * 16)

pub readable_row : (c : ℕ) (line : List ℕ) (n : ℕ) → first (read_row_tests c line n) ≡ 0 → Readable c line n
unfolding read_row_tests
readable_row c line n h =
    let z = first_none ((ltb 1024 c, 1) ∷ (not (eqb n (wide c)), 4) ∷ (unframed line (wide c * 16), 10) ∷ []) tt h in
    record { small = ltb-false 1024 c z.0; size = eqb-true n (wide c) (not-false (eqb n (wide c)) z.1.0); frame = framed line (wide c * 16) z.1.1.0 }

pub record Writable (c n m : ℕ) : Type 0 where
  pub small : c ≤ 1024
  pub size : n ≡ wide c
  pub room : m ≡ wide c * 16 + 1

pub writable_row : (c n m : ℕ) → first (write_row_tests c n m) ≡ 0 → Writable c n m
unfolding write_row_tests line_long
writable_row c n m h =
    let z = first_none ((ltb 1024 c, 1) ∷ (not (eqb n (wide c)) || not (eqb m (wide c * 16 + 1)), 4) ∷ []) tt h in
    let a = or_left (not (eqb n (wide c))) (not (eqb m (wide c * 16 + 1))) z.1.0 in
    let b = or_right (not (eqb n (wide c))) (not (eqb m (wide c * 16 + 1))) z.1.0 in
    record { small = ltb-false 1024 c z.0; size = eqb-true n (wide c) (not-false (eqb n (wide c)) a); room = eqb-true m (wide c * 16 + 1) (not-false (eqb m (wide c * 16 + 1)) b) }
