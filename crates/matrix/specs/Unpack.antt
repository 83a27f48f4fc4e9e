-- What `unpack` answers and leaves. Assumes nothing.
use Rattle.std.specs.Prelude.{◌||◌, List, ◌∷◌, ℕ, length}
use Rattle.buffers.specs.Buffer.{cell}
use Rattle.requests.specs.declared.Size.{Size}
use Rattle.requests.specs.declared.Buffer.TheVariants.{First}
use Rattle.requests.specs.Answers.{Tests, answered}
use Rattle.requests.specs.Sizes.{over, unfit}
use Rattle.requests.specs.Faults.{faults}
use Rattle.matrix.specs.Unpacked.{bytes, unlike}

unfoldable pub unpack_of : ℕ → ℕ → List ℕ → List ℕ
unpack_of r c a = bytes r c (cell c a)

-- n is how many bytes there are for the result
unfoldable pub unpack_tests : Size → List ℕ → ℕ → Tests
unpack_tests s a n = (over s, 1) ∷ (unfit s (length a) || unlike s n, 4) ∷ faults First s a

unfoldable pub unpack_means : Size → List ℕ → List ℕ → ℕ × List ℕ
unpack_means s a out = answered (unpack_tests s a (length out)) out (unpack_of s.rows s.columns a)
