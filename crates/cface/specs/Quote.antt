-- What `nyuzolamba_quote` answers and leaves: the size quote. Assumes nothing.
use Rattle.std.specs.Prelude.{List, [], ◌∷◌, ℕ, length}
use Rattle.requests.specs.declared.Size.{Size}
use Rattle.requests.specs.Answers.{answered}
use Rattle.steps.specs.Count.{quote}
use Rattle.matrix.specs.Job.{meant}
use Rattle.wordbytes.specs.Bytes.{bytes_of}
use Rattle.cface.specs.Count.{count_tests}

unfoldable pub quote_face : Size → ℕ → List ℕ → ℕ × List ℕ
quote_face x width out = answered (count_tests x width (length out)) out (bytes_of (quote x.rows x.columns (meant x width) ∷ []))
