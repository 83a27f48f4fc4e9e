-- Where a number of steps stands in the list. Assumes nothing.
use Rattle.std.specs.Prelude.{◌≡◌, ℕ, ◌≤◌, ◌<◌}
use Rattle.cells.specs.Digit.{Matrix}
use Rattle.cells.specs.Counts.{sum}
use Rattle.steps.specs.StepList.{blocks}
use Rattle.steps.specs.Count.{total, count_at}
use Rattle.walk.specs.declared.place.Standing.{Standing}

-- the exact total, and the last block that begins at or before the steps done, with the steps before it; past the last block of the list there
-- is its end
pub record StandsAt (m l k : ℕ) (A : Matrix) (done : ℕ) (at : Standing) : Type 0 where
  pub total_is : at.total ≡ total m l k A
  pub before_is : at.before ≡ sum 0 at.block (count_at m l k A)
  pub begun : at.before ≤ done
  pub within : at.block ≤ blocks l k
  pub last : (b : ℕ) → at.block < b → b ≤ blocks l k → done < sum 0 b (count_at m l k A)
