-- Unpacked, a matrix is one byte a cell, row by row. Assumes nothing.
use Rattle.std.specs.Prelude.{◌≡◌, Bool, not, List, ℕ, ◌+◌, ◌*◌, ◌<◌, eqb, length, get_or}
use Rattle.cells.specs.Digit.{Matrix}
use Rattle.buffers.specs.Buffer.{tab, joined}
use Rattle.requests.specs.declared.Size.{Size}

-- the digit in row i and column j of c columns
unfoldable pub byte_at : ℕ → List ℕ → Matrix
byte_at c cells i j = get_or cells (i * c + j) 0

-- the bytes of M
unfoldable pub bytes : ℕ → ℕ → Matrix → List ℕ
bytes r c M = joined r (λ i. tab c (M i))

-- bytes that are the digits of M, each in its place, and no more of them
pub record Unpacks (r c : ℕ) (M : Matrix) (cells : List ℕ) : Type 0 where
  pub long : length cells ≡ r * c
  pub digits : (i j : ℕ) → i < r → j < c → byte_at c cells i j ≡ M i j

-- n bytes are not exactly a matrix's
unfoldable pub unlike : Size → ℕ → Bool
unlike s n = not (eqb n (s.rows * s.columns))
