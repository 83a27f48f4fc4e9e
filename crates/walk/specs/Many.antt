-- Many blocks at once. Assumes nothing.
use Rattle.std.specs.Prelude.{◌≡◌, List, ℕ, ◌+◌, ◌*◌, ◌≤◌, ◌<◌, bit_xor}
use Rattle.cells.specs.Digit.{Matrix}
use Rattle.cells.specs.Counts.{sum}
use Rattle.cells.specs.Lanes.{filled}
use Rattle.cells.specs.Pair.{Good}
use Rattle.cells.specs.declared.Cells.{Cells}
use Rattle.buffers.specs.Buffer.{Legal}
use Rattle.steps.specs.StepList.{blocks, block_width}
use Rattle.steps.specs.Count.{row_count}

-- n blocks from block b on, that fit in a word
pub record Fitting (r c k b n : ℕ) (a : List ℕ) : Type 0 where
  pub m : r ≤ 1024
  pub l : c ≤ 1024
  pub legal : Legal r c a
  pub some : 0 < k
  pub width : k ≤ 8
  pub room : b + n ≤ blocks c k
  pub more : 0 < n
  pub word : n * k ≤ 64

-- the steps of row i in the n blocks from block b on
abbrev pub row_of : ℕ → ℕ → Matrix → ℕ → ℕ → ℕ → ℕ
row_of l k A b n i = sum b n (λ c. row_count A (c * k) (block_width l k c) i)

-- a word pair whose lanes count these steps
pub record Counted (l k : ℕ) (A : Matrix) (b n i : ℕ) (x : Cells) : Type 0 where
  pub good : Good x
  pub steps : filled k n (bit_xor x.unit x.sign) + filled k n x.sign ≡ row_of l k A b n i
