-- The columns of a matrix of one row are the row's. Assumes nothing.
use mathlib.Core.Path.{◌≡◌, ap}
use mathlib.Core.List.{List}
use Prim.Native.Nat.{ℕ, ◌*◌}
use native.Mathlib.Nat.{zero-mul}
use native.Mathlib.Omega.{arith}
use Rattle.buffers.specs.Buffer.{planes, cell, Words, Legal}
use Rattle.rows.specs.Row.{column, Readable}
use Rattle.rows.specs.Tally.{tally_row}
use Rattle.rows.proofs.MatrixLaws.{row_readable, column_cell}

pub row_zero : (c q : ℕ) (a : List ℕ) → q ≡ planes c → Legal 1 c a → Words a → Readable q q 0 a
row_zero c q a e L fits = rw (zero-mul (2 * q)) at (row_readable 1 c 0 q a e L fits (omega arith))

pub tally_cells : (c q : ℕ) (a : List ℕ) → q ≡ planes c → tally_row (column a 0 q) c ≡ tally_row (cell c a 0) c
tally_cells c q a e = ap (λ (row : ℕ → ℕ). tally_row row c) (λ i j. at_zero j i)
  where
    at_zero : (j : ℕ) → column a 0 q j ≡ cell c a 0 j
    at_zero j = rw (zero-mul (2 * q)) at (column_cell c 0 q j a e)
