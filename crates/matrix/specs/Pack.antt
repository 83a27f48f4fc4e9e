-- What `pack` answers and leaves. Assumes nothing.
use Rattle.std.specs.Prelude.{◌||◌, List, [], ◌∷◌, ℕ, ◌/◌, ◌%◌, ltb, length, get_or}
use Rattle.cells.specs.Any.{any, least}
use Rattle.buffers.specs.Buffer.{encode}
use Rattle.requests.specs.declared.Size.{Size}
use Rattle.requests.specs.declared.Buffer.TheVariants.{First}
use Rattle.requests.specs.Answers.{Tests, placed, answered}
use Rattle.requests.specs.Sizes.{over, unfit}
use Rattle.requests.specs.Faults.{place_at}
use Rattle.matrix.specs.Unpacked.{byte_at, unlike}

unfoldable pub pack_of : ℕ → ℕ → List ℕ → List ℕ
pack_of r c cells = encode r c (byte_at c cells)

-- the first digit above 2, and its row and column
unfoldable pub above_first : List ℕ → ℕ
above_first cells = least (length cells) (λ k. ltb 2 (get_or cells k 0))

unfoldable pub above_at : ℕ → List ℕ → ℕ × ℕ
above_at c cells = (above_first cells / c, above_first cells % c)

-- n is how many words there are for the result
unfoldable pub pack_tests : Size → List ℕ → ℕ → Tests
pack_tests s cells n = (over s, 1) ∷ (unlike s (length cells) || unfit s n, 4) ∷ (any (length cells) (λ k. ltb 2 (get_or cells k 0)), placed 8 (place_at First (above_at s.columns cells))) ∷ []

unfoldable pub pack_means : Size → List ℕ → List ℕ → ℕ × List ℕ
pack_means s cells out = answered (pack_tests s cells (length out)) out (pack_of s.rows s.columns cells)
