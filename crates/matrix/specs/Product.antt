-- What `product` answers and leaves: an opening and then every step of the list. Assumes nothing.
use Rattle.std.specs.Prelude.{List, ℕ, ◌^◌, length}
use Rattle.buffers.specs.Buffer.{cell, encode}
use Rattle.requests.specs.declared.Size.{Size}
use Rattle.requests.specs.Answers.{answered}
use Rattle.steps.specs.Step.{State, run, opening}
use Rattle.steps.specs.StepList.{steps}
use Rattle.walk.specs.declared.factors.Factors.{Factors}
use Rattle.walk.specs.Factors.{matrix_of}
use Rattle.matrix.specs.Job.{meant}
use Rattle.matrix.specs.Opening.{opening_tests}

-- what the whole list leaves of the opening, of factors and of matrices
abbrev pub ended : Factors → State
ended f = run (matrix_of f.b) (steps f.a.rows f.a.columns f.width (matrix_of f.a)) opening

unfoldable pub end_of : Size → Size → ℕ → List ℕ → List ℕ → State
end_of x y width a b = run (cell y.columns b) (steps x.rows x.columns width (cell x.columns a)) opening

-- table and product
unfoldable pub product_means : Size → Size → ℕ → List ℕ → List ℕ → List ℕ → List ℕ → ℕ × (List ℕ × List ℕ)
product_means x y width a b t p =
    answered (opening_tests x y width a b (length t) (length p)) (t, p)
    (encode (2 ^ meant x width) y.columns (end_of x y (meant x width) a b).table, encode x.rows y.columns (end_of x y (meant x width) a b).product)
