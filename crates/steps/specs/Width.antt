-- The default width: the one from 1 to 8 with the least size quote, the smaller where two are equal. Assumes nothing.
use Rattle.std.specs.Prelude.{true, false, ℕ, zero, suc, ◌≤◌, ◌<◌, ltb}
use Rattle.steps.specs.Count.{quote}

-- k where f k is less than f w, else w
unfoldable pub better : (ℕ → ℕ) → ℕ → ℕ → ℕ
better f w k = elim (ltb (f k) (f w)) [ true ↦ k | false ↦ w ]

-- the number from 1 to n + 1 at which f is least, the smaller where two are equal
unfoldable pub cheapest : (ℕ → ℕ) → ℕ → ℕ
cheapest f zero = 1
cheapest f (suc n) = better f (cheapest f n) (suc (suc n))

unfoldable pub default_width : ℕ → ℕ → ℕ
default_width m l = cheapest (quote m l) 7

-- what it is to be that number, from 1 to n: no other is less, and every smaller one is more
pub record Cheapest (f : ℕ → ℕ) (n w : ℕ) : Type 0 where
  pub from : 1 ≤ w
  pub to : w ≤ n
  pub lowest : (k : ℕ) → 1 ≤ k → k ≤ n → f w ≤ f k
  pub first : (k : ℕ) → 1 ≤ k → k < w → f w < f k
