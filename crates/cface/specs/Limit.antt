-- The C face's limit, and lengths in bytes. Assumes nothing.
use Rattle.std.specs.Prelude.{Bool, not, ◌||◌, [], ◌∷◌, ℕ, ◌*◌, eqb}
use Rattle.buffers.specs.Buffer.{words}
use Rattle.requests.specs.declared.Size.{Size}
use Rattle.matrix.specs.Job.{table_size, product_size}
use Rattle.requests.specs.Answers.{Tests}
use Rattle.requests.specs.Sizes.{exceeds, over}

-- a row or column count is above 64
unfoldable pub above : Size → Bool
above s = exceeds 64 s

-- the tests of one size alone, and of two
abbrev pub limit_tests : Size → Tests
limit_tests s = (over s, 1) ∷ (above s, 11) ∷ []

abbrev pub both_limit_tests : Size → Size → Tests
both_limit_tests x y = (over x || over y, 1) ∷ (above x || above y, 11) ∷ []

-- n bytes are not exactly a matrix's
unfoldable pub unfit_bytes : Size → ℕ → Bool
unfit_bytes s n = not (eqb n (8 * words s.rows s.columns))

-- one of the lengths of a job's A, B, table and product is not exact
unfoldable pub misfit_bytes : Size → Size → ℕ → ℕ → ℕ → ℕ → ℕ → Bool
misfit_bytes x y width a b table product = unfit_bytes x a || (unfit_bytes y b || (unfit_bytes (table_size y width) table || unfit_bytes (product_size x y) product))
