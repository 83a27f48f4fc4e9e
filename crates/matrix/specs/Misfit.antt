-- The lengths of a job's buffers. Assumes nothing.
use Rattle.std.specs.Prelude.{Bool, ◌||◌, ℕ}
use Rattle.requests.specs.declared.Size.{Size}
use Rattle.requests.specs.Sizes.{unfit}
use Rattle.matrix.specs.Job.{table_size, product_size}

-- one of the lengths of A, B, table and product is not exact
unfoldable pub misfit : Size → Size → ℕ → ℕ → ℕ → ℕ → ℕ → Bool
misfit x y width a b table product = unfit x a || (unfit y b || (unfit (table_size y width) table || unfit (product_size x y) product))
