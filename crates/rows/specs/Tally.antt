-- How many of the c columns of a row of digits hold a digit. Assumes nothing.
use Rattle.std.specs.Prelude.{List, [], ◌∷◌, ℕ}
use Rattle.cells.specs.Counts.{sum, is}

unfoldable pub columns_with : ℕ → (ℕ → ℕ) → ℕ → ℕ
columns_with d row c = sum 0 c (λ j. is (row j) d)

-- zeros, ones and twos
unfoldable pub tally_row : (ℕ → ℕ) → ℕ → List ℕ
tally_row row c = columns_with 0 row c ∷ columns_with 1 row c ∷ columns_with 2 row c ∷ []
