-- A digit that stands at each of the 64 places. Assumes nothing.
use Rattle.std.specs.Prelude.{◌≡◌, ℕ, ◌<◌}
use Rattle.cells.specs.Pair.{digit, LegalPair}

pub record Spread (d u s : ℕ) : Type 0 where
  pub legal : LegalPair u s
  pub digits : (t : ℕ) → t < 64 → digit u s t ≡ d
