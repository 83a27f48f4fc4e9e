-- What `total` answers: the exact total, from the sizes and A. Assumes nothing.
use Rattle.std.specs.Prelude.{List, ◌∷◌, ℕ, ltb, length}
use Rattle.requests.specs.declared.Size.{Size}
use Rattle.requests.specs.declared.Buffer.TheVariants.{First}
use Rattle.requests.specs.Answers.{Tests, answered}
use Rattle.requests.specs.Sizes.{over, unfit}
use Rattle.requests.specs.Faults.{faults}
use Rattle.matrix.specs.Job.{meant, total_of}

-- the tests of what the list depends on: the sizes, the width and A
unfoldable pub total_tests : Size → ℕ → List ℕ → Tests
total_tests x width a = (over x, 1) ∷ (ltb 8 width, 3) ∷ (unfit x (length a), 4) ∷ faults First x a

unfoldable pub total_means : Size → ℕ → List ℕ → ℕ × ℕ
total_means x width a = answered (total_tests x width a) 0 (total_of x (meant x width) a)
