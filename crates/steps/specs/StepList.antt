-- The list of row steps of a product, where A has m rows and l columns and the width is k. It is made from A and the sizes: B is no part of it.
-- Assumes nothing.
use Rattle.std.specs.Prelude.{ℕ, zero, suc, ◌+◌, ◌-◌, ◌*◌, ◌/◌, ◌^◌, min, List, [], ◌∷◌, ◌++◌}
use Rattle.cells.specs.Digit.{Matrix}
use Rattle.cells.specs.Counts.{bits_of}
use Rattle.steps.specs.Step.{Step, table_step, plus, minus}

-- in the block of the columns s, .. s + w - 1, row i of A has a bit in P for each 1, and in N for each 2
abbrev pub P : Matrix → ℕ → ℕ → ℕ → ℕ
P A s w i = bits_of 1 (A i) s w

abbrev pub N : Matrix → ℕ → ℕ → ℕ → ℕ
N A s w i = bits_of 2 (A i) s w

-- one step if x is not 0, else none
unfoldable pub unless0 : (ℕ → Step) → ℕ → List Step
unless0 step zero = []
unless0 step (suc x) = step (suc x) ∷ []

-- f s, f (s + 1), .., n of them one after another
unfoldable pub many : ℕ → ℕ → (ℕ → List Step) → List Step
many s zero f = []
many s (suc n) f = f s ++ many (suc s) n f

-- for each x from s up to e - 1
unfoldable pub each : ℕ → ℕ → (ℕ → List Step) → List Step
each s e f = many s (e - s) f

-- the first part of a block: table rows 1, .. 2 ^ w - 1
unfoldable pub table_steps : ℕ → ℕ → List Step
table_steps s w = each 1 (2 ^ w) (λ x. table_step s x ∷ [])

-- the second part, for row i of A
unfoldable pub row_steps : Matrix → ℕ → ℕ → ℕ → List Step
row_steps A s w i = unless0 (plus i) (P A s w i) ++ unless0 (minus i) (N A s w i)

unfoldable pub block_steps : ℕ → Matrix → ℕ → ℕ → List Step
block_steps m A s w = table_steps s w ++ each 0 m (row_steps A s w)

-- how many blocks there are: l / k rounded up
unfoldable pub blocks : ℕ → ℕ → ℕ
blocks l k = (l + (k - 1)) / k

-- block b starts at column b * k, and is as wide as k and the columns that are left allow
unfoldable pub block_width : ℕ → ℕ → ℕ → ℕ
block_width l k b = min k (l - b * k)

abbrev pub block_at : ℕ → ℕ → ℕ → Matrix → ℕ → List Step
block_at m l k A b = block_steps m A (b * k) (block_width l k b)

unfoldable pub steps : ℕ → ℕ → ℕ → Matrix → List Step
steps m l k A = each 0 (blocks l k) (block_at m l k A)
