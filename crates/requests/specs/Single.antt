-- The tests of a request that makes a matrix of one. Assumes nothing.
use Rattle.std.specs.Prelude.{◌||◌, List, ◌∷◌, ℕ, length}
use Rattle.requests.specs.declared.Size.{Size}
use Rattle.requests.specs.declared.Buffer.TheVariants.{First}
use Rattle.requests.specs.Answers.{Tests}
use Rattle.requests.specs.Sizes.{over, unfit}
use Rattle.requests.specs.Faults.{faults}

-- n is how many words there are for the result, which is of size t
unfoldable pub single_tests : Size → Size → List ℕ → ℕ → Tests
single_tests s t a n = (over s, 1) ∷ (unfit s (length a) || unfit t n, 4) ∷ faults First s a
