-- Shown out: a multiply that refuses every text, and one that always leaves the same. Two texts, computed from its statement. Assumes nothing.
use mathlib.Core.Path.{◌≡◌, refl, ap}
use mathlib.Core.List.{List, [], ◌∷◌}
use Prim.Native.Nat.{ℕ, ◌-◌}
use native.Mathlib.Omega.{arith}
use lib.ListN.{get_or}
use Rattle.cells.specs.Any.{any}
use Rattle.cells.specs.Counts.{sum}
use Rattle.buffers.specs.Buffer.{planes, wide, words, tab, joined, plane, encode}
use Rattle.buffers.specs.Fault.{stray, padded}
use Rattle.requests.specs.Answers.{first}
use Rattle.requests.specs.Sizes.{over}
use Rattle.requests.specs.Faults.{faults}
use Rattle.requests.proofs.ShownOut.{ShownOut, shown_out}
use Rattle.steps.specs.Count.{quote, total}
use Rattle.steps.specs.Width.{better, cheapest, default_width}
use Rattle.steps.specs.StepList.{many, each, blocks, steps}
use Rattle.matrix.specs.Job.{meant}
use Rattle.hexadecimal.specs.Digit.{digit_of, byte_of, nibble}
use Rattle.hexadecimal.specs.Line.{hex_of, value_of, undigit, unframed}
use Rattle.frames.specs.Header.{header_of, size_of, read_header_tests}
use Rattle.frames.specs.RowLine.{line_long}
use Rattle.texts.specs.MatrixText.{misread, words_read, lines_of, size_in, words_in, rest_of, above, head_tests, matrix_tests}
use Rattle.texts.specs.Multiply.{form_tests, product_tests, multiply_tests, frames_of, product_text, answer_text, multiply_text, laid, placed, multiply_means}

-- a refusal has eleven bytes (LaidLaws: refusal-long); short is 0 for more
abbrev short : ℕ → ℕ
short n = 12 - n

-- A without rows and columns, and B without rows; then their product and its total, which is 0. The digit d is how many columns B has
abbrev input : ℕ → List ℕ
input d = 48 ∷ 48 ∷ 48 ∷ 48 ∷ 48 ∷ 48 ∷ 48 ∷ 48 ∷ 10 ∷ 48 ∷ 48 ∷ 48 ∷ 48 ∷ 48 ∷ 48 ∷ 48 ∷ d ∷ 10 ∷ []

abbrev printed : ℕ → List ℕ
printed d = 48 ∷ 48 ∷ 48 ∷ 48 ∷ 48 ∷ 48 ∷ 48 ∷ d ∷ 10 ∷ 48 ∷ 48 ∷ 48 ∷ 48 ∷ 48 ∷ 48 ∷ 48 ∷ 48 ∷ 10 ∷ []

abbrev means : List ℕ → List ℕ → ℕ × List ℕ
means out text = (short (multiply_means text out).0, (multiply_means text out).1)

texts : (means (printed 48) (input 48) ≡ (0, printed 48)) × (means (printed 48) (input 49) ≡ (0, printed 49))
unfolding multiply_means placed laid multiply_text answer_text product_text frames_of multiply_tests product_tests form_tests matrix_tests head_tests above rest_of words_in size_in lines_of words_read misread line_long read_header_tests size_of header_of unframed undigit value_of hex_of nibble byte_of digit_of steps blocks each many meant default_width cheapest better quote sum total faults over first padded stray encode plane joined tab words wide planes any
texts = (refl, refl)

pub multiply_shown_out : ShownOut {X = List ℕ} {I = List ℕ} {S = List ℕ} short (λ out text. (short (multiply_means text out).0, (multiply_means text out).1))
multiply_shown_out =
    shown_out short means (printed 48) (input 48) (input 49) (printed 48) (printed 49) texts.0 texts.1
    (λ e. let z : ◌≡◌ {A = ℕ} 48 49 = ap (λ (l : List ℕ). get_or l 7 0) e in omega arith)
