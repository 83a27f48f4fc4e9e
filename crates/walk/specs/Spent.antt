-- What a list of steps spends of those to skip and of a budget. Assumes nothing.
use Rattle.std.specs.Prelude.{◌≡◌, ℕ, ◌-◌}
use Rattle.walk.specs.declared.Left.{Left}

-- what a list of n steps leaves to skip and of the budget
pub record Spent (before : Left) (n : ℕ) (after : Left) : Type 0 where
  pub skip : after.skip ≡ before.skip - n
  pub budget : after.budget ≡ before.budget - (n - before.skip)
