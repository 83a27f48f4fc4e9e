-- The tests of a call that makes a matrix of two of the same size and a digit. Assumes nothing.
use Rattle.std.specs.Prelude.{◌||◌, List, [], ◌∷◌, ◌++◌, ℕ, ltb, length}
use Rattle.requests.specs.declared.Size.{Size}
use Rattle.requests.specs.declared.Buffer.TheVariants.{First, Second}
use Rattle.requests.specs.Answers.{Tests}
use Rattle.requests.specs.Sizes.{over}
use Rattle.requests.specs.Faults.{pair_faults}
use Rattle.requests.specs.Pair.{unequal}
use Rattle.wordbytes.specs.Bytes.{words_in}
use Rattle.cface.specs.Limit.{above, unfit_bytes}

-- the tests of sizes, lengths and the digit; l, m and n are how many bytes A, B and the result have
unfoldable pub pair_sizes : Size → Size → ℕ → ℕ → ℕ → ℕ → Tests
pair_sizes x y d l m n = (over x || over y, 1) ∷ (above x || above y, 11) ∷ (unequal x y, 2) ∷ (unfit_bytes x l || (unfit_bytes y m || unfit_bytes x n), 4) ∷ (ltb 2 d, 8) ∷ []

unfoldable pub pair_face_tests : Size → Size → ℕ → List ℕ → List ℕ → ℕ → Tests
pair_face_tests x y d a b n = pair_sizes x y d (length a) (length b) n ++ pair_faults First Second x y (words_in a) (words_in b)
