-- What `scaling` answers and leaves. Assumes nothing.
use Rattle.std.specs.Prelude.{◌||◌, List, ◌∷◌, ℕ, ltb, length}
use Rattle.cells.specs.Digit.{mul3}
use Rattle.buffers.specs.Buffer.{cell, encode}
use Rattle.requests.specs.declared.Size.{Size}
use Rattle.requests.specs.declared.Buffer.TheVariants.{First}
use Rattle.requests.specs.Answers.{Tests, answered}
use Rattle.requests.specs.Sizes.{over, unfit}
use Rattle.requests.specs.Faults.{faults}

unfoldable pub scaling_of : ℕ → ℕ → ℕ → List ℕ → List ℕ
scaling_of d r c a = encode r c (λ i j. mul3 (cell c a i j) d)

-- n is how many words there are for the result; a scale above 2 has no place
unfoldable pub scaling_tests : Size → ℕ → List ℕ → ℕ → Tests
scaling_tests s d a n = (over s, 1) ∷ (unfit s (length a) || unfit s n, 4) ∷ (ltb 2 d, 8) ∷ faults First s a

unfoldable pub scaling_means : Size → ℕ → List ℕ → List ℕ → ℕ × List ℕ
scaling_means s d a out = answered (scaling_tests s d a (length out)) out (scaling_of d s.rows s.columns a)
