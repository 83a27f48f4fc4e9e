-- The matrix whose list is as long as its quote, and what a safe quote is. Assumes nothing.
use Rattle.std.specs.Prelude.{ℕ, ◌+◌, ◌%◌, ◌≤◌}
use Rattle.cells.specs.Digit.{Matrix}
use Rattle.steps.specs.Matrix.{Digits}
use Rattle.steps.specs.Count.{total}

-- 1 in even columns and 2 in odd ones, the same in every row: 1 2 1 2 ..
unfoldable pub witness : Matrix
witness i j = 1 + j % 2

-- q steps are enough at width k for every matrix of m rows and l columns of digits
abbrev pub Safe : ℕ → ℕ → ℕ → ℕ → Type 0
Safe m l k q = (A : Matrix) → Digits m l A → total m l k A ≤ q
