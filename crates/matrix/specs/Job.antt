-- A job's sizes and buffers. A is x, m by l; B is y, l by n; the table has 2 ^ width rows of n columns; the product is m by n. Assumes nothing.
use Rattle.std.specs.Prelude.{Bool, not, ◌||◌, List, ℕ, zero, suc, ◌^◌, ltb, eqb}
use Rattle.buffers.specs.Buffer.{cell}
use Rattle.requests.specs.declared.Size.{Size}
use Rattle.steps.specs.Count.{total}
use Rattle.steps.specs.Width.{default_width}

-- 0 means the default for A's sizes
unfoldable pub meant : Size → ℕ → ℕ
meant x zero = default_width x.rows x.columns
meant x (suc w) = suc w

-- in a turn a width is 1 to 8
abbrev pub unwide : ℕ → Bool
unwide width = eqb width 0 || ltb 8 width

abbrev pub table_size : Size → ℕ → Size
table_size y width = record { rows = 2 ^ width; columns = y.columns }

abbrev pub product_size : Size → Size → Size
product_size x y = record { rows = x.rows; columns = y.columns }

-- A's columns aren't B's rows
abbrev pub unmatched : Size → Size → Bool
unmatched x y = not (eqb x.columns y.rows)

-- the exact total of A
abbrev pub total_of : Size → ℕ → List ℕ → ℕ
total_of x width a = total x.rows x.columns width (cell x.columns a)
