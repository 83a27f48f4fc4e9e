-- What `nyuzolamba_negation` answers and leaves. Assumes nothing.
use Rattle.std.specs.Prelude.{◌||◌, List, [], ◌∷◌, ◌++◌, ℕ, length}
use Rattle.requests.specs.declared.Size.{Size}
use Rattle.requests.specs.declared.Buffer.TheVariants.{First}
use Rattle.requests.specs.Answers.{Tests, answered}
use Rattle.requests.specs.Sizes.{over}
use Rattle.requests.specs.Faults.{faults}
use Rattle.matrix.specs.Negation.{negation_of}
use Rattle.wordbytes.specs.Bytes.{words_in, bytes_of}
use Rattle.cface.specs.Limit.{above, unfit_bytes}

-- the tests of sizes and lengths; l and n are how many bytes A and the result have
unfoldable pub negation_sizes : Size → ℕ → ℕ → Tests
negation_sizes s l n = (over s, 1) ∷ (above s, 11) ∷ (unfit_bytes s l || unfit_bytes s n, 4) ∷ []

unfoldable pub negation_face_tests : Size → List ℕ → ℕ → Tests
negation_face_tests s a n = negation_sizes s (length a) n ++ faults First s (words_in a)

unfoldable pub negation_face : Size → List ℕ → List ℕ → ℕ × List ℕ
negation_face s a out = answered (negation_face_tests s a (length out)) out (bytes_of (negation_of s.rows s.columns (words_in a)))
