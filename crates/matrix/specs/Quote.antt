-- What `quote` answers: the size quote, from the sizes alone. Assumes nothing.
use Rattle.std.specs.Prelude.{[], ◌∷◌, ℕ, ltb}
use Rattle.requests.specs.declared.Size.{Size}
use Rattle.requests.specs.Answers.{Tests, answered}
use Rattle.requests.specs.Sizes.{over}
use Rattle.steps.specs.Count.{quote}
use Rattle.matrix.specs.Job.{meant}

unfoldable pub quote_tests : Size → ℕ → Tests
quote_tests x width = (over x, 1) ∷ (ltb 8 width, 3) ∷ []

unfoldable pub quote_means : Size → ℕ → ℕ × ℕ
quote_means x width = answered (quote_tests x width) 0 (quote x.rows x.columns (meant x width))
