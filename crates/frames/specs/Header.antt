-- The header line: rows, then columns, four digits each. Assumes nothing.
use Rattle.std.specs.Prelude.{not, List, [], ◌∷◌, ◌++◌, ℕ, eqb, length, Result}
use Rattle.requests.specs.declared.Size.{Size}
use Rattle.requests.specs.declared.Reason.{Reason}
use Rattle.requests.specs.Answers.{word, held, Tests, answered}
use Rattle.requests.specs.Sizes.{over}
use Rattle.hexadecimal.specs.Line.{hex_of, value_of, unframed}

unfoldable pub header_of : Size → List ℕ
header_of s = hex_of 4 s.rows ++ (hex_of 4 s.columns ++ (10 ∷ []))

unfoldable pub size_of : List ℕ → Size
size_of line = record { rows = value_of line 0 4; columns = value_of line 4 4 }

unfoldable pub read_header_tests : List ℕ → Tests
read_header_tests line = (unframed line 8, 10) ∷ (over (size_of line), 1) ∷ []

-- refused, both counts are 0
unfoldable pub read_header_means : List ℕ → ℕ × (ℕ × ℕ)
read_header_means line = answered (read_header_tests line) (0, 0) ((size_of line).rows, (size_of line).columns)

-- what an answer says of a header: its word, and the counts that it holds
abbrev pub no_size : Size
no_size = record { rows = 0; columns = 0 }

abbrev pub header_told : Result Size Reason → ℕ × (ℕ × ℕ)
header_told a = (word a, ((held no_size a).rows, (held no_size a).columns))

unfoldable pub write_header_tests : Size → ℕ → Tests
write_header_tests s n = (over s, 1) ∷ (not (eqb n 9), 4) ∷ []

unfoldable pub write_header_means : Size → List ℕ → ℕ × List ℕ
write_header_means s line = answered (write_header_tests s (length line)) line (header_of s)
