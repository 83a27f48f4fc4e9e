-- What `nyuzolamba_check` answers. Assumes nothing.
use Rattle.std.specs.Prelude.{List, [], ◌∷◌, ◌++◌, ℕ, length}
use Rattle.requests.specs.declared.Size.{Size}
use Rattle.requests.specs.declared.Buffer.TheVariants.{First}
use Rattle.requests.specs.Answers.{Tests, first}
use Rattle.requests.specs.Sizes.{over}
use Rattle.requests.specs.Faults.{faults}
use Rattle.wordbytes.specs.Bytes.{words_in}
use Rattle.cface.specs.Limit.{above, unfit_bytes}

-- the tests of sizes and lengths; n is how many bytes A has
unfoldable pub check_sizes : Size → ℕ → Tests
check_sizes s n = (over s, 1) ∷ (above s, 11) ∷ (unfit_bytes s n, 4) ∷ []

unfoldable pub check_face_tests : Size → List ℕ → Tests
check_face_tests s a = check_sizes s (length a) ++ faults First s (words_in a)

unfoldable pub check_face : Size → List ℕ → ℕ
check_face s a = first (check_face_tests s a)
