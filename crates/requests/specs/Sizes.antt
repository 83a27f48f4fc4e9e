-- The tests of a size, and of a length. Assumes nothing.
use Rattle.std.specs.Prelude.{Bool, not, ◌||◌, ℕ, ltb, eqb}
use Rattle.buffers.specs.Buffer.{words}
use Rattle.requests.specs.declared.Size.{Size}

-- a row or column count is above a limit
abbrev pub exceeds : ℕ → Size → Bool
exceeds limit s = ltb limit s.rows || ltb limit s.columns

-- .. above 1,024
unfoldable pub over : Size → Bool
over s = exceeds 1024 s

-- n words are not exactly a matrix's
unfoldable pub unfit : Size → ℕ → Bool
unfit s n = not (eqb n (words s.rows s.columns))
