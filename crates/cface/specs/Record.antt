-- The length of a job's record as a buffer of bytes. Assumes nothing.
use Rattle.std.specs.Prelude.{Bool, not, ℕ, ◌*◌, eqb}

-- n bytes are not exactly a record's
unfoldable pub unfit_record : ℕ → Bool
unfit_record n = not (eqb n (8 * 7))
