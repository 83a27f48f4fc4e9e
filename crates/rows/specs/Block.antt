-- The bits P and N of a block of the w columns from column s on: P has a bit for each 1, N for each 2. Assumes nothing.
use Rattle.std.specs.Prelude.{List, ℕ}
use Rattle.cells.specs.Counts.{bits_of}
use Rattle.rows.specs.declared.block.Bits.{Bits}
use Rattle.rows.specs.Row.{column}

unfoldable pub block_of : List ℕ → ℕ → ℕ → ℕ → ℕ → Bits
block_of ws x q s w = record { ones = bits_of 1 (column ws x q) s w; twos = bits_of 2 (column ws x q) s w }
