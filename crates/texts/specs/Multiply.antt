-- What the program multiply prints for what it reads. Assumes nothing.
use Rattle.std.specs.Prelude.{Bool, true, false, not, List, [], ◌∷◌, ◌++◌, ℕ, zero, suc, ltb, length, drop}
use Rattle.buffers.specs.Buffer.{cell, encode}
use Rattle.requests.specs.declared.Size.{Size}
use Rattle.requests.specs.Answers.{Tests, first}
use Rattle.requests.specs.Faults.{fault_numbers}
use Rattle.steps.specs.Matrix.{schoolbook}
use Rattle.matrix.specs.Job.{meant, product_size, unmatched, total_of}
use Rattle.hexadecimal.specs.Line.{hex_of}
use Rattle.frames.specs.Header.{header_of}
use Rattle.texts.specs.MatrixText.{lines_of, size_in, words_in, rest_of, matrix_tests}

-- A, then B, then the end
unfoldable pub form_tests : List ℕ → Tests
form_tests text = matrix_tests text ++ (matrix_tests (rest_of text) ++ ((ltb 0 (length (rest_of (rest_of text))), 10) ∷ []))

-- and after that 2, then 5 and 6, whose places it does not print
unfoldable pub product_tests : Size → Size → List ℕ → List ℕ → Tests
product_tests x y a b = (unmatched x y, 2) ∷ (fault_numbers x a ++ fault_numbers y b)

unfoldable pub multiply_tests : List ℕ → Tests
multiply_tests text = form_tests text ++ product_tests (size_in text) (size_in (rest_of text)) (words_in text) (words_in (rest_of text))

-- the word refused, a space, the number as two digits, byte 10
unfoldable pub refusal : ℕ → List ℕ
refusal n = (114 ∷ 101 ∷ 102 ∷ 117 ∷ 115 ∷ 101 ∷ 100 ∷ 32 ∷ []) ++ (hex_of 2 n ++ (10 ∷ []))

-- the frames of a matrix, and then a total as eight digits
unfoldable pub frames_of : Size → List ℕ → ℕ → List ℕ
frames_of s ws total = header_of s ++ (lines_of s.rows s.columns ws ++ (hex_of 8 total ++ (10 ∷ [])))

-- the schoolbook product of x and y, and the exact total at the default width
unfoldable pub product_text : Size → Size → List ℕ → List ℕ → List ℕ
product_text x y a b =
    frames_of (product_size x y) (encode x.rows y.columns (schoolbook x.columns (cell x.columns a) (cell y.columns b))) (total_of x (meant x 0) a)

-- .. of the two matrices in a text
abbrev pub product_in : List ℕ → List ℕ
product_in text = product_text (size_in text) (size_in (rest_of text)) (words_in text) (words_in (rest_of text))

unfoldable pub answer_text : ℕ → List ℕ → List ℕ
answer_text zero text = text
answer_text (suc n) text = refusal (suc n)

unfoldable pub multiply_text : List ℕ → List ℕ
multiply_text text = answer_text (first (multiply_tests text)) (product_in text)

-- ---- in a buffer

-- a text over the first places of a buffer
unfoldable pub laid : List ℕ → List ℕ → List ℕ
laid text out = text ++ drop (length text) out

-- how long the text is, and the buffer; without room for all of it there is none of it
unfoldable pub placed : Bool → List ℕ → List ℕ → ℕ × List ℕ
placed true text out = (length text, laid text out)
placed false text out = (0, out)

unfoldable pub multiply_means : List ℕ → List ℕ → ℕ × List ℕ
multiply_means text out = placed (not (ltb (length out) (length (multiply_text text)))) (multiply_text text) out
