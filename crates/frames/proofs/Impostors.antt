-- Shown out: an implementation that refuses everything, and one with a fixed answer, of each request for a line. Two lines of each kind, computed
-- from the requests' own statements. Assumes nothing.
use mathlib.Core.Path.{◌≡◌, refl, ap}
use mathlib.Core.List.{List, [], ◌∷◌}
use Prim.Native.Nat.{ℕ}
use native.Mathlib.Omega.{arith}
use lib.ListN.{get_or}
use Rattle.std.specs.Prelude.{Result}
use Rattle.requests.specs.declared.Reason.{Reason}
use Rattle.cells.specs.Any.{any}
use Rattle.buffers.specs.Buffer.{planes, wide, tab, joined}
use Rattle.requests.specs.declared.Size.{Size}
use Rattle.requests.specs.Answers.{Answer, word, first, left, answered}
use Rattle.requests.specs.Sizes.{over}
use Rattle.requests.proofs.ShownOut.{ShownOut, shown_out}
use Rattle.hexadecimal.specs.Digit.{digit_of, byte_of, nibble}
use Rattle.hexadecimal.specs.Line.{hex_of, value_of, undigit, unframed}
use Rattle.frames.specs.Header.{header_of, size_of, read_header_tests, read_header_means, write_header_tests, write_header_means}
use Rattle.frames.specs.RowLine.{line_long, line_of, words_of, read_row_tests, read_row_means, write_row_tests, write_row_means}

-- the header of no columns and one row or none, and the line of one cell that holds 0 or 1: each differs in one digit
abbrev header : ℕ → List ℕ
header d = 48 ∷ 48 ∷ 48 ∷ d ∷ 48 ∷ 48 ∷ 48 ∷ 48 ∷ 10 ∷ []

abbrev sixteen : ℕ → List ℕ → List ℕ
sixteen d rest = 48 ∷ 48 ∷ 48 ∷ 48 ∷ 48 ∷ 48 ∷ 48 ∷ 48 ∷ 48 ∷ 48 ∷ 48 ∷ 48 ∷ 48 ∷ 48 ∷ 48 ∷ d ∷ rest

abbrev line : ℕ → List ℕ
line d = sixteen d (sixteen 48 (10 ∷ []))

abbrev tall : ℕ → Size
tall r = record { rows = r; columns = 0 }

pub record Lines : Type 0 where
  pub header_read : (read_header_means (header 48) ≡ (0, (0, 0))) × (read_header_means (header 49) ≡ (0, (1, 0)))
  pub header_written : (write_header_means (tall 0) (header 48) ≡ (0, header 48)) × (write_header_means (tall 1) (header 48) ≡ (0, header 49))
  pub row_read : (read_row_means 1 (line 48) (0 ∷ 0 ∷ []) ≡ (0, 0 ∷ 0 ∷ [])) × (read_row_means 1 (line 49) (0 ∷ 0 ∷ []) ≡ (0, 1 ∷ 0 ∷ []))
  pub row_written : (write_row_means 1 (0 ∷ 0 ∷ []) (line 48) ≡ (0, line 48)) × (write_row_means 1 (1 ∷ 0 ∷ []) (line 48) ≡ (0, line 49))

pub lines : Lines
unfolding read_header_means read_header_tests write_header_means write_header_tests read_row_means read_row_tests write_row_means write_row_tests line_long answered first left header_of size_of line_of words_of over hex_of nibble byte_of value_of digit_of unframed undigit any wide planes tab joined
lines = record { header_read = (refl, refl); header_written = (refl, refl); row_read = (refl, refl); row_written = (refl, refl) }

pub read_header_shown_out : ShownOut {X = Unit {0}} {I = List ℕ} {R = Result Size Reason} {S = ℕ × ℕ} word (λ x line. read_header_means line)
read_header_shown_out =
    shown_out word _ tt (header 48) (header 49) (0, 0) (1, 0) lines.header_read.0 lines.header_read.1
    (λ e. let z : ◌≡◌ {A = ℕ} 0 1 = ap (λ (o : ℕ × ℕ). o.0) e in omega arith)

pub write_header_shown_out : ShownOut {X = List ℕ} {I = Size} {R = Answer} {S = List ℕ} word (λ line s. write_header_means s line)
write_header_shown_out =
    shown_out word _ (header 48) (tall 0) (tall 1) (header 48) (header 49) lines.header_written.0 lines.header_written.1
    (λ e. let z : ◌≡◌ {A = ℕ} 48 49 = ap (λ (l : List ℕ). get_or l 3 0) e in omega arith)

pub read_row_shown_out : ShownOut {X = ℕ × List ℕ} {I = List ℕ} {R = Answer} {S = List ℕ} word (λ x line. read_row_means x.0 line x.1)
read_row_shown_out =
    shown_out word _ (1, 0 ∷ 0 ∷ []) (line 48) (line 49) (0 ∷ 0 ∷ []) (1 ∷ 0 ∷ []) lines.row_read.0 lines.row_read.1
    (λ e. let z : ◌≡◌ {A = ℕ} 0 1 = ap (λ (l : List ℕ). get_or l 0 0) e in omega arith)

pub write_row_shown_out : ShownOut {X = ℕ × List ℕ} {I = List ℕ} {R = Answer} {S = List ℕ} word (λ x ws. write_row_means x.0 ws x.1)
write_row_shown_out =
    shown_out word _ (1, line 48) (0 ∷ 0 ∷ []) (1 ∷ 0 ∷ []) (line 48) (line 49) lines.row_written.0 lines.row_written.1
    (λ e. let z : ◌≡◌ {A = ℕ} 48 49 = ap (λ (l : List ℕ). get_or l 15 0) e in omega arith)
