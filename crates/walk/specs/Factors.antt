-- What a product's factors hold, what is made with them, and the steps of a block. Assumes nothing.
use Rattle.std.specs.Prelude.{List, ℕ, ◌^◌}
use Rattle.cells.specs.Digit.{Matrix}
use Rattle.buffers.specs.Buffer.{cell, Legal}
use Rattle.steps.specs.Step.{Step}
use Rattle.steps.specs.StepList.{row_steps, block_steps}
use Rattle.walk.specs.Ran.{Ran}
use Rattle.walk.specs.declared.factors.Factors.{Factors}
use Rattle.walk.specs.declared.factors.Block.{Block}
use Rattle.walk.specs.declared.factors.Packed.{Packed}

-- the matrix that is lent
abbrev pub matrix_of : Packed → Matrix
matrix_of x = cell x.columns x.words.now

-- a table and a product as long as the factors ask for, and legal
pub record Sized (f : Factors) (t p : List ℕ) : Type 0 where
  pub table : Legal (2 ^ f.width) f.b.columns t
  pub product : Legal f.a.rows f.b.columns p

-- the steps ps of a product of these factors, where B is as given
abbrev pub RanFor : Factors → Matrix → List Step → List ℕ → List ℕ → List ℕ → List ℕ → Type 0
RanFor f B ps t p t' p' = Ran f.width f.a.rows f.b.columns B ps t p t' p'

-- the steps of row i of A in a block, and all of the block's
abbrev pub row_list : Block → ℕ → List Step
row_list block i = row_steps (matrix_of block.factors.a) block.start block.width i

abbrev pub block_list : Block → List Step
block_list block = block_steps block.factors.a.rows (matrix_of block.factors.a) block.start block.width
