-- How many steps: the size quote, and exact counts. Assumes nothing.
use Rattle.std.specs.Prelude.{ℕ, ◌+◌, ◌-◌, ◌*◌, ◌^◌, min, length}
use Rattle.cells.specs.Digit.{Matrix}
use Rattle.cells.specs.Counts.{sum}
use Rattle.steps.specs.StepList.{P, N, blocks, block_width, steps}

-- what a block of w columns is quoted: its table rows, and two steps a row of A, or one where the block has one column
abbrev pub block_quote : ℕ → ℕ → ℕ
block_quote m w = (2 ^ w - 1) + m * min 2 w

unfoldable pub quote : ℕ → ℕ → ℕ → ℕ
quote m l k = sum 0 (blocks l k) (λ b. block_quote m (block_width l k b))

-- the exact total
unfoldable pub total : ℕ → ℕ → ℕ → Matrix → ℕ
total m l k A = length (steps m l k A)

-- ---- the same by counting, without the list

-- in a block, row i has one step if P is not 0, and one if N is not 0
unfoldable pub row_count : Matrix → ℕ → ℕ → ℕ → ℕ
row_count A s w i = min 1 (P A s w i) + min 1 (N A s w i)

unfoldable pub block_count : ℕ → Matrix → ℕ → ℕ → ℕ
block_count m A s w = (2 ^ w - 1) + sum 0 m (row_count A s w)

-- block b of the list
abbrev pub count_at : ℕ → ℕ → ℕ → Matrix → ℕ → ℕ
count_at m l k A b = block_count m A (b * k) (block_width l k b)
