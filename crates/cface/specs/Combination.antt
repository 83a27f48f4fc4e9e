-- What `nyuzolamba_combination` answers and leaves: X plus the digit d times Y. Assumes nothing.
use Rattle.std.specs.Prelude.{List, ℕ, length}
use Rattle.requests.specs.declared.Size.{Size}
use Rattle.requests.specs.Answers.{answered}
use Rattle.matrix.specs.Combination.{combination_of}
use Rattle.wordbytes.specs.Bytes.{words_in, bytes_of}
use Rattle.cface.specs.Pair.{pair_face_tests}

unfoldable pub combination_face : Size → Size → ℕ → List ℕ → List ℕ → List ℕ → ℕ × List ℕ
combination_face x y d a b out = answered (pair_face_tests x y d a b (length out)) out (bytes_of (combination_of d x.rows x.columns (words_in a) (words_in b)))
