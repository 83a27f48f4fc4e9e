-- What demand 2 says of a result. Assumes nothing.
use Rattle.std.specs.Prelude.{◌≡◌, List, ℕ, ◌<◌}
use Rattle.cells.specs.Digit.{Matrix}
use Rattle.buffers.specs.Buffer.{cell, Legal, Words}

-- a buffer that is legal, holds M, and is the only one
pub record Shows (r c : ℕ) (M : Matrix) (ws : List ℕ) : Type 0 where
  pub legal : Legal r c ws
  pub digits : (i j : ℕ) → i < r → j < c → cell c ws i j ≡ M i j
  pub only : (vs : List ℕ) → Legal r c vs → Words vs → ((i j : ℕ) → i < r → j < c → cell c vs i j ≡ M i j) → vs ≡ ws
