-- What `transpose` answers and leaves. Assumes nothing.
use Rattle.std.specs.Prelude.{List, ℕ, length}
use Rattle.buffers.specs.Buffer.{cell, encode}
use Rattle.requests.specs.declared.Size.{Size}
use Rattle.requests.specs.Answers.{answered}
use Rattle.requests.specs.Single.{single_tests}

-- rows for columns
abbrev pub transposed_size : Size → Size
transposed_size s = record { rows = s.columns; columns = s.rows }

unfoldable pub transpose_of : ℕ → ℕ → List ℕ → List ℕ
transpose_of r c a = encode c r (λ i j. cell c a j i)

unfoldable pub transpose_means : Size → List ℕ → List ℕ → ℕ × List ℕ
transpose_means s a out = answered (single_tests s (transposed_size s) a (length out)) out (transpose_of s.rows s.columns a)
