-- What `combination` answers and leaves: X plus the digit d times Y. Assumes nothing.
use Rattle.std.specs.Prelude.{List, ℕ, length}
use Rattle.cells.specs.Digit.{combine}
use Rattle.buffers.specs.Buffer.{cell, encode}
use Rattle.requests.specs.declared.Size.{Size}
use Rattle.requests.specs.Answers.{answered}
use Rattle.requests.specs.Pair.{pair_tests}

unfoldable pub combination_of : ℕ → ℕ → ℕ → List ℕ → List ℕ → List ℕ
combination_of d r c a b = encode r c (λ i j. combine d (cell c a i j) (cell c b i j))

unfoldable pub combination_means : Size → Size → ℕ → List ℕ → List ℕ → List ℕ → ℕ × List ℕ
combination_means x y d a b out = answered (pair_tests x y d a b (length out)) out (combination_of d x.rows x.columns a b)
