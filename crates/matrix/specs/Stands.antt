-- A job that stands after the first d steps of its list: its record, and what these steps leave in table and product. Assumes nothing.
use Rattle.std.specs.Prelude.{◌≡◌, List, ℕ, ◌^◌}
use Rattle.buffers.specs.Buffer.{cell, encode}
use Rattle.requests.specs.declared.Size.{Size}
use Rattle.steps.specs.Step.{State, opening}
use Rattle.steps.specs.StepList.{steps}
use Rattle.steps.specs.Turn.{after}
use Rattle.matrix.specs.declared.job.Job.{Job}

-- A is x and B is y, with their words a and b; the width is k
abbrev pub state_at : Size → Size → ℕ → List ℕ → List ℕ → ℕ → State
state_at x y k a b d = after (cell y.columns b) (steps x.rows x.columns k (cell x.columns a)) opening d

abbrev pub job_at : Size → Size → ℕ → ℕ → Job
job_at x y k d = record { m = x.rows; l = x.columns; n = y.columns; width = k; done = d }

pub record Stands (x y : Size) (k : ℕ) (a b : List ℕ) (d : ℕ) (job : Job) (t p : List ℕ) : Type 0 where
  pub record_is : job ≡ job_at x y k d
  pub table_is : t ≡ encode (2 ^ k) y.columns (state_at x y k a b d).table
  pub product_is : p ≡ encode x.rows y.columns (state_at x y k a b d).product
