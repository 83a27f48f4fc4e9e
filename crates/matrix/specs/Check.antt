-- What `check` answers. Assumes nothing.
use Rattle.std.specs.Prelude.{List, ◌∷◌, ℕ, length}
use Rattle.requests.specs.declared.Size.{Size}
use Rattle.requests.specs.declared.Buffer.TheVariants.{First}
use Rattle.requests.specs.Answers.{Tests, first}
use Rattle.requests.specs.Sizes.{over, unfit}
use Rattle.requests.specs.Faults.{faults}

unfoldable pub check_tests : Size → List ℕ → Tests
check_tests s a = (over s, 1) ∷ (unfit s (length a), 4) ∷ faults First s a

unfoldable pub check_means : Size → List ℕ → ℕ
check_means s a = first (check_tests s a)
