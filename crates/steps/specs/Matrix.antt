-- Matrices over the field of three elements, and their schoolbook product. Assumes nothing.
use Rattle.std.specs.Prelude.{◌≡◌, ℕ, ◌*◌, ◌%◌, ◌<◌}
use Rattle.cells.specs.Digit.{Matrix}
use Rattle.cells.specs.Counts.{sum}

abbrev pub Row : Type 0
Row = ℕ → ℕ

-- every cell of the first r rows and c columns is a digit
abbrev pub Digits : ℕ → ℕ → Matrix → Type 0
Digits r c M = (i j : ℕ) → i < r → j < c → M i j < 3

-- two matrices hold the same cells in the first r rows and c columns
abbrev pub SameCells : ℕ → ℕ → Matrix → Matrix → Type 0
SameCells r c M M' = (i j : ℕ) → i < r → j < c → M i j ≡ M' i j

-- the product of A, of l columns, and B, of l rows
unfoldable pub schoolbook : ℕ → Matrix → Matrix → Matrix
schoolbook l A B i n = sum 0 l (λ j. A i j * B j n) % 3
