-- Document 01's sample: what the statement says is printed is what the document shows, and where its reading stops, by computation. Assumes nothing.
use mathlib.Core.Path.{◌≡◌, refl}
use mathlib.Core.Bool.{true, false}
use mathlib.Core.List.{List, [], ◌∷◌, ◌++◌}
use Prim.Native.Nat.{ℕ}
use Rattle.cells.specs.Any.{any}
use Rattle.cells.specs.Bit.{bit, word_of}
use Rattle.cells.specs.Counts.{sum, is, bits_of}
use Rattle.cells.specs.Digit.{unit_of, sign_of}
use Rattle.buffers.specs.Buffer.{planes, wide, words, bit_at, unit, sign, cell, tab, joined, plane, encode}
use Rattle.buffers.specs.Fault.{stray, padded}
use Rattle.requests.specs.Answers.{first}
use Rattle.requests.specs.Sizes.{over}
use Rattle.requests.specs.Faults.{faults}
use Rattle.steps.specs.Matrix.{schoolbook}
use Rattle.steps.specs.Count.{quote, total}
use Rattle.steps.specs.Width.{better, cheapest, default_width}
use Rattle.steps.specs.StepList.{unless0, many, each, table_steps, row_steps, block_steps, blocks, block_width, steps}
use Rattle.matrix.specs.Job.{meant}
use Rattle.hexadecimal.specs.Digit.{digit_of, byte_of, nibble}
use Rattle.hexadecimal.specs.Line.{hex_of, value_of, undigit, unframed}
use Rattle.frames.specs.Header.{header_of, size_of, read_header_tests}
use Rattle.frames.specs.RowLine.{line_long, line_of, words_of}
use Rattle.texts.specs.MatrixText.{line_at, misread, words_read, lines_of, size_in, words_in, rest_of, above, head_tests, matrix_tests}
use Rattle.texts.specs.Stops.{line_stops, head_stops, row_stops, rows_stop, matrix_stops, stops}
use Rattle.texts.specs.Multiply.{form_tests, product_tests, multiply_tests, refusal, frames_of, product_text, answer_text, multiply_text}

input : List ℕ
input =
    48 ∷ 48 ∷ 48 ∷ 50 ∷ 48 ∷ 48 ∷ 48 ∷ 51 ∷ 10 ∷
    48 ∷ 48 ∷ 48 ∷ 48 ∷ 48 ∷ 48 ∷ 48 ∷ 48 ∷ 48 ∷ 48 ∷ 48 ∷ 48 ∷ 48 ∷ 48 ∷ 48 ∷ 51 ∷ 48 ∷ 48 ∷ 48 ∷ 48 ∷ 48 ∷ 48 ∷ 48 ∷ 48 ∷ 48 ∷ 48 ∷ 48 ∷ 48 ∷ 48 ∷ 48 ∷ 48 ∷ 50 ∷ 10 ∷
    48 ∷ 48 ∷ 48 ∷ 48 ∷ 48 ∷ 48 ∷ 48 ∷ 48 ∷ 48 ∷ 48 ∷ 48 ∷ 48 ∷ 48 ∷ 48 ∷ 48 ∷ 54 ∷ 48 ∷ 48 ∷ 48 ∷ 48 ∷ 48 ∷ 48 ∷ 48 ∷ 48 ∷ 48 ∷ 48 ∷ 48 ∷ 48 ∷ 48 ∷ 48 ∷ 48 ∷ 50 ∷ 10 ∷
    48 ∷ 48 ∷ 48 ∷ 51 ∷ 48 ∷ 48 ∷ 48 ∷ 50 ∷ 10 ∷
    48 ∷ 48 ∷ 48 ∷ 48 ∷ 48 ∷ 48 ∷ 48 ∷ 48 ∷ 48 ∷ 48 ∷ 48 ∷ 48 ∷ 48 ∷ 48 ∷ 48 ∷ 49 ∷ 48 ∷ 48 ∷ 48 ∷ 48 ∷ 48 ∷ 48 ∷ 48 ∷ 48 ∷ 48 ∷ 48 ∷ 48 ∷ 48 ∷ 48 ∷ 48 ∷ 48 ∷ 48 ∷ 10 ∷
    48 ∷ 48 ∷ 48 ∷ 48 ∷ 48 ∷ 48 ∷ 48 ∷ 48 ∷ 48 ∷ 48 ∷ 48 ∷ 48 ∷ 48 ∷ 48 ∷ 48 ∷ 51 ∷ 48 ∷ 48 ∷ 48 ∷ 48 ∷ 48 ∷ 48 ∷ 48 ∷ 48 ∷ 48 ∷ 48 ∷ 48 ∷ 48 ∷ 48 ∷ 48 ∷ 48 ∷ 49 ∷ 10 ∷
    48 ∷ 48 ∷ 48 ∷ 48 ∷ 48 ∷ 48 ∷ 48 ∷ 48 ∷ 48 ∷ 48 ∷ 48 ∷ 48 ∷ 48 ∷ 48 ∷ 48 ∷ 51 ∷ 48 ∷ 48 ∷ 48 ∷ 48 ∷ 48 ∷ 48 ∷ 48 ∷ 48 ∷ 48 ∷ 48 ∷ 48 ∷ 48 ∷ 48 ∷ 48 ∷ 48 ∷ 48 ∷ 10 ∷ []

output : List ℕ
output =
    48 ∷ 48 ∷ 48 ∷ 50 ∷ 48 ∷ 48 ∷ 48 ∷ 50 ∷ 10 ∷
    48 ∷ 48 ∷ 48 ∷ 48 ∷ 48 ∷ 48 ∷ 48 ∷ 48 ∷ 48 ∷ 48 ∷ 48 ∷ 48 ∷ 48 ∷ 48 ∷ 48 ∷ 51 ∷ 48 ∷ 48 ∷ 48 ∷ 48 ∷ 48 ∷ 48 ∷ 48 ∷ 48 ∷ 48 ∷ 48 ∷ 48 ∷ 48 ∷ 48 ∷ 48 ∷ 48 ∷ 51 ∷ 10 ∷
    48 ∷ 48 ∷ 48 ∷ 48 ∷ 48 ∷ 48 ∷ 48 ∷ 48 ∷ 48 ∷ 48 ∷ 48 ∷ 48 ∷ 48 ∷ 48 ∷ 48 ∷ 49 ∷ 48 ∷ 48 ∷ 48 ∷ 48 ∷ 48 ∷ 48 ∷ 48 ∷ 48 ∷ 48 ∷ 48 ∷ 48 ∷ 48 ∷ 48 ∷ 48 ∷ 48 ∷ 49 ∷ 10 ∷
    48 ∷ 48 ∷ 48 ∷ 48 ∷ 48 ∷ 48 ∷ 48 ∷ 55 ∷ 10 ∷ []

sample : multiply_text input ≡ output
unfolding input output multiply_text answer_text product_text frames_of refusal multiply_tests product_tests form_tests matrix_tests head_tests above rest_of words_in size_in lines_of words_read misread line_at line_long words_of line_of read_header_tests size_of header_of unframed undigit value_of hex_of nibble byte_of digit_of steps block_width blocks block_steps row_steps table_steps each many unless0 bits_of meant default_width cheapest better quote total schoolbook sum faults over first padded stray encode plane joined tab cell sign unit bit_at words wide planes word_of sign_of unit_of is bit any
sample = refl

-- the reading goes on to the sample's end, stops with one byte more, and stops at the word hello without an end
goes_on : stops input ≡ false
unfolding input stops matrix_stops rows_stop row_stops head_stops line_stops head_tests above rest_of size_in line_long read_header_tests size_of unframed undigit value_of digit_of over first wide planes any
goes_on = refl

one_more : stops (input ++ (48 ∷ [])) ≡ true
unfolding input stops matrix_stops rows_stop row_stops head_stops line_stops head_tests above rest_of size_in line_long read_header_tests size_of unframed undigit value_of digit_of over first wide planes any
one_more = refl

hello : stops (104 ∷ 101 ∷ 108 ∷ 108 ∷ 111 ∷ []) ≡ true
unfolding stops matrix_stops head_stops line_stops undigit digit_of any
hello = refl
