-- The frames of a matrix and a total, written part after part. Assumes nothing.
use mathlib.Core.Path.{◌≡◌, refl, sym, ap, ◌∙◌}
use mathlib.Core.List.{List, [], ◌∷◌, ◌++◌, append_assoc}
use Prim.Native.Nat.{ℕ, ◌+◌, ◌-◌, ◌*◌, ◌≤◌}
use native.Mathlib.Nat.{mul-le-mul}
use native.Mathlib.Omega.{arith}
use lib.ListN.{length, take, drop, length-append, length-take, length-drop}
use borrow.Author.Tests.{le-ltb}
use Rattle.buffers.specs.Buffer.{planes, wide, tab}
use Rattle.buffers.proofs.SizeLaws.{planes_le}
use Rattle.requests.specs.declared.Size.{Size}
use Rattle.requests.specs.Answers.{first, left, answered}
use Rattle.requests.specs.Sizes.{over}
use Rattle.hexadecimal.specs.Line.{hex_of}
use Rattle.frames.specs.Header.{header_of, write_header_tests, write_header_means}
use Rattle.frames.specs.RowLine.{line_long}
use Rattle.texts.specs.MatrixText.{lines_of}
use Rattle.texts.specs.Multiply.{frames_of, laid}
use Rattle.texts.proofs.LaidLaws.{laid_more}
use Rattle.texts.proofs.TextLaws.{lines_long}

pub header_long : (s : Size) → length (header_of s) ≡ 9
unfolding header_of hex_of tab
header_long s = refl

pub header_written : (s : Size) (line new : List ℕ) (n : ℕ) → s.rows ≤ 1024 → s.columns ≤ 1024 → length line ≡ 9 → ◌≡◌ {A = ℕ × List ℕ} (n, new) (write_header_means s line) → (n ≡ 0) × (new ≡ header_of s)
unfolding write_header_means write_header_tests answered left first over
header_written s line new n few narrow room says =
    let e = rw (le-ltb 1024 s.rows few, le-ltb 1024 s.columns narrow, room) at says in
    (ap (λ (o : ℕ × List ℕ). o.0) e, ap (λ (o : ℕ × List ℕ). o.1) e)

-- how many bytes there are
pub frames_long : (s : Size) (ws : List ℕ) (total : ℕ) → length (frames_of s ws total) ≡ 9 + s.rows * line_long s.columns + 9
unfolding frames_of hex_of tab
frames_long s ws total =
    length-append (header_of s) _ ∙ omega (arith, header_long s, length-append (lines_of s.rows s.columns ws) (hex_of 8 total ++ (10 ∷ [])), lines_long s.rows s.columns ws)

-- no overflow on the way, beyond the limit too
pub frames_room : (r c q : ℕ) → r ≤ 1024 → c ≤ 1024 → q ≡ planes c → (q ≤ 16) × (r * (2 * q * 16 + 1) ≤ 525312) × (r * (2 * q * 16 + 1) ≡ r * line_long c)
unfolding line_long wide
frames_room r c q few narrow e =
    let h : q ≤ 16 = omega (arith, planes_le c narrow) in
    (h, mul-le-mul {n₂ = 1024} {m₂ = 513} few (omega arith), ap (λ (p : ℕ). r * (2 * p * 16 + 1)) e)

module _ (s : Size) (ws : List ℕ) (total e : ℕ) (out head lines line : List ℕ) (size : e ≡ 9 + s.rows * line_long s.columns) (h : head ≡ header_of s) where
  head_laid : head ++ drop 9 out ≡ laid (header_of s) out
  unfolding laid
  head_laid = rw h (ap (λ (n : ℕ). header_of s ++ drop n out) (sym (header_long s)))

  -- what is lent for the lines is as long as they are
  pub lines_fit : 9 + s.rows * line_long s.columns ≤ length out → length (take (e - 9) (drop 9 (head ++ drop 9 out))) ≡ s.rows * line_long s.columns
  lines_fit room =
      length-take (e - 9) (drop 9 (head ++ drop 9 out))
      ∙ omega (arith, size, length-drop 9 (head ++ drop 9 out), length-append head (drop 9 out), length-drop 9 out, ap length h ∙ header_long s)

  module _ (g : lines ≡ lines_of s.rows s.columns ws) (f : line ≡ hex_of 8 total ++ (10 ∷ [])) where
    abbrev two : List ℕ
    two = take 9 (head ++ drop 9 out) ++ (lines ++ drop (e - 9) (drop 9 (head ++ drop 9 out)))

    two_laid : two ≡ laid (header_of s ++ lines_of s.rows s.columns ws) out
    two_laid =
        let k : length lines ≡ e - 9 = ap length g ∙ omega (arith, size, lines_long s.rows s.columns ws) in
        rw head_laid (laid_more (header_of s) lines out 9 (e - 9) (header_long s) k) ∙ ap (λ (l : List ℕ). laid (header_of s ++ l) out) g

    pub frames_laid : take e two ++ (line ++ drop (e + 9 - e) (drop e two)) ≡ laid (frames_of s ws total) out
    unfolding frames_of hex_of tab
    frames_laid =
        let k : length (header_of s ++ lines_of s.rows s.columns ws) ≡ e = length-append (header_of s) _ ∙ omega (arith, header_long s, size, lines_long s.rows s.columns ws) in
        let d : length line ≡ e + 9 - e = ap length f ∙ omega arith in
        rw two_laid (laid_more (header_of s ++ lines_of s.rows s.columns ws) line out e (e + 9 - e) k d)
        ∙ ap (λ (l : List ℕ). laid (header_of s ++ lines_of s.rows s.columns ws ++ l) out) f ∙ ap (λ (l : List ℕ). laid l out) (append_assoc (header_of s) _ _)
