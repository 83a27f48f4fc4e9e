-- The line of a row: its words in order, sixteen digits each. Assumes nothing.
use Rattle.std.specs.Prelude.{not, ◌||◌, List, [], ◌∷◌, ◌++◌, ℕ, ◌+◌, ◌*◌, ltb, eqb, length, get_or}
use Rattle.buffers.specs.Buffer.{wide, tab, joined}
use Rattle.requests.specs.Answers.{Tests, answered}
use Rattle.hexadecimal.specs.Line.{hex_of, value_of, unframed}

-- how many bytes the line of a row has
unfoldable pub line_long : ℕ → ℕ
line_long c = wide c * 16 + 1

-- the line of w words, and the words of a line
unfoldable pub line_of : ℕ → List ℕ → List ℕ
line_of w ws = joined w (λ p. hex_of 16 (get_or ws p 0)) ++ (10 ∷ [])

unfoldable pub words_of : ℕ → List ℕ → List ℕ
words_of w line = tab w (λ p. value_of line (p * 16) 16)

-- n is how many words there are
unfoldable pub read_row_tests : ℕ → List ℕ → ℕ → Tests
read_row_tests c line n = (ltb 1024 c, 1) ∷ (not (eqb n (wide c)), 4) ∷ (unframed line (wide c * 16), 10) ∷ []

unfoldable pub read_row_means : ℕ → List ℕ → List ℕ → ℕ × List ℕ
read_row_means c line ws = answered (read_row_tests c line (length ws)) ws (words_of (wide c) line)

-- n is how many words there are, and m how many bytes
unfoldable pub write_row_tests : ℕ → ℕ → ℕ → Tests
write_row_tests c n m = (ltb 1024 c, 1) ∷ (not (eqb n (wide c)) || not (eqb m (line_long c)), 4) ∷ []

unfoldable pub write_row_means : ℕ → List ℕ → List ℕ → ℕ × List ℕ
write_row_means c ws line = answered (write_row_tests c (length ws) (length line)) line (line_of (wide c) ws)
