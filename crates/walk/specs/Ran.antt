-- What a list of row steps leaves of a table and a product, as buffers. Assumes nothing.
use Rattle.std.specs.Prelude.{◌≡◌, List, ℕ, ◌^◌}
use Rattle.cells.specs.Digit.{Matrix}
use Rattle.buffers.specs.Buffer.{cell, encode}
use Rattle.steps.specs.Step.{Step, State, run}

-- the state that a table and a product of n columns hold
unfoldable pub found : ℕ → List ℕ → List ℕ → State
found n t p = record { table = cell n t; product = cell n p }

-- t and p, a table of 2 ^ k rows and a product of m rows, become t' and p' by the steps ps
pub record Ran (k m n : ℕ) (B : Matrix) (ps : List Step) (t p t' p' : List ℕ) : Type 0 where
  pub table : t' ≡ encode (2 ^ k) n (run B ps (found n t p)).table
  pub product : p' ≡ encode m n (run B ps (found n t p)).product
