-- What `nyuzolamba_width` answers and leaves: the width meant. Assumes nothing.
use Rattle.std.specs.Prelude.{List, [], ◌∷◌, ℕ, length}
use Rattle.requests.specs.declared.Size.{Size}
use Rattle.requests.specs.Answers.{answered}
use Rattle.matrix.specs.Job.{meant}
use Rattle.wordbytes.specs.Bytes.{bytes_of}
use Rattle.cface.specs.Count.{count_tests}

unfoldable pub width_face : Size → ℕ → List ℕ → ℕ × List ℕ
width_face x width out = answered (count_tests x width (length out)) out (bytes_of (meant x width ∷ []))
