-- What is there of a text shows a fault already, whatever comes after it: the reading stops. Assumes nothing.
use Rattle.std.specs.Prelude.{Bool, cond, ◌||◌, List, ℕ, ◌*◌, ltb, length, take, drop}
use Rattle.cells.specs.Any.{any}
use Rattle.buffers.specs.Buffer.{wide}
use Rattle.requests.specs.Answers.{first}
use Rattle.hexadecimal.specs.Line.{undigit, unframed}
use Rattle.frames.specs.RowLine.{line_long}
use Rattle.texts.specs.MatrixText.{size_in, rest_of, head_tests}

-- the line of k bytes that a text begins with: all of it is there, and it is bad; or a part of it is, with a byte that is no digit
unfoldable pub line_stops : ℕ → Bool → List ℕ → Bool
line_stops k bad text = cond (ltb (length text) k) (undigit text (length text)) bad

unfoldable pub head_stops : List ℕ → Bool
head_stops text = line_stops 9 (ltb 0 (first (head_tests text))) text

unfoldable pub row_stops : ℕ → List ℕ → Bool
row_stops c text = line_stops (line_long c) (unframed (take (line_long c) text) (wide c * 16)) text

-- one of the r lines that a text begins with
unfoldable pub rows_stop : ℕ → ℕ → List ℕ → Bool
rows_stop r c text = any r (λ i. row_stops c (drop (i * line_long c) text))

unfoldable pub matrix_stops : List ℕ → Bool
matrix_stops text = head_stops text || rows_stop (size_in text).rows (size_in text).columns (drop 9 text)

-- A, then B, then what should be the end; where A is not all there, nothing comes after it yet, and nothing is no fault
unfoldable pub stops : List ℕ → Bool
stops text = matrix_stops text || (matrix_stops (rest_of text) || ltb 0 (length (rest_of (rest_of text))))
