-- A matrix in text: its header line and the lines of its rows, one after another. Assumes nothing.
use Rattle.std.specs.Prelude.{Bool, List, [], ◌∷◌, ◌++◌, ℕ, ◌+◌, ◌*◌, take, drop}
use Rattle.cells.specs.Any.{any}
use Rattle.buffers.specs.Buffer.{wide, joined}
use Rattle.requests.specs.declared.Size.{Size}
use Rattle.requests.specs.Answers.{Tests, answered}
use Rattle.hexadecimal.specs.Line.{unframed}
use Rattle.frames.specs.Header.{size_of, read_header_tests}
use Rattle.frames.specs.RowLine.{line_long, line_of, words_of}
use Rattle.requests.specs.Sizes.{exceeds}

-- line i of those that a text begins with
unfoldable pub line_at : ℕ → List ℕ → ℕ → List ℕ
line_at c text i = take (line_long c) (drop (i * line_long c) text)

-- one of the first r lines is not that of a row
unfoldable pub misread : ℕ → ℕ → List ℕ → Bool
misread r c text = any r (λ i. unframed (line_at c text i) (wide c * 16))

-- the words of r lines, and the lines of r rows
unfoldable pub words_read : ℕ → ℕ → List ℕ → List ℕ
words_read r c text = joined r (λ i. words_of (wide c) (line_at c text i))

unfoldable pub lines_of : ℕ → ℕ → List ℕ → List ℕ
lines_of r c ws = joined r (λ i. line_of (wide c) (take (wide c) (drop (i * wide c) ws)))

-- ---- a text that begins with a matrix

-- the header line has nine bytes
unfoldable pub size_in : List ℕ → Size
size_in text = size_of (take 9 text)

unfoldable pub words_in : List ℕ → List ℕ
words_in text = words_read (size_in text).rows (size_in text).columns (drop 9 text)

-- what comes after the matrix
unfoldable pub rest_of : List ℕ → List ℕ
rest_of text = drop (9 + (size_in text).rows * line_long (size_in text).columns) text

-- above the program's limit
unfoldable pub above : Size → Bool
above s = exceeds 128 s

unfoldable pub head_tests : List ℕ → Tests
head_tests text = read_header_tests (take 9 text) ++ ((above (size_in text), 11) ∷ [])

-- refused, both counts are 0
unfoldable pub size_means : List ℕ → ℕ × (ℕ × ℕ)
size_means text = answered (head_tests text) (0, 0) ((size_in text).rows, (size_in text).columns)

-- lines are judged in their order
unfoldable pub matrix_tests : List ℕ → Tests
matrix_tests text = head_tests text ++ ((misread (size_in text).rows (size_in text).columns (drop 9 text), 10) ∷ [])
