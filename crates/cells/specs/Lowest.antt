-- The lowest set bit of a number. Assumes nothing.
use Rattle.std.specs.Prelude.{◌≡◌, ℕ, ◌+◌, ◌^◌, ◌<◌, ◌≢◌}
use Rattle.cells.specs.Bit.{bit}

-- t is the place of the lowest set bit of x, a number of k bits, and rest is x without it
pub record Peels (k x t rest : ℕ) : Type 0 where
  pub place : t < k
  pub set : bit x t ≡ 1
  pub below : (i : ℕ) → i < t → bit x i ≡ 0
  pub split : x ≡ rest + 2 ^ t
  pub less : rest < x
  pub cleared : bit rest t ≡ 0
  pub others : (i : ℕ) → (i ≢ t) → bit rest i ≡ bit x i
