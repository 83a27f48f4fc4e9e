-- Demand 3, of a job that is opened and given turns whose budgets add up to a sum. Assumes nothing.
use Rattle.std.specs.Prelude.{List, ℕ, ◌≤◌, min}
use Rattle.buffers.specs.Buffer.{cell}
use Rattle.buffers.specs.Shows.{Shows}
use Rattle.requests.specs.declared.Size.{Size}
use Rattle.steps.specs.Count.{quote}
use Rattle.steps.specs.Matrix.{schoolbook}
use Rattle.matrix.specs.declared.job.Job.{Job}
use Rattle.matrix.specs.Job.{total_of}
use Rattle.matrix.specs.Stands.{Stands}

-- it stands at the smaller of the sum and the list's length, which never exceeds the quote; at the end the product is the schoolbook one
pub record Reached (x y : Size) (k : ℕ) (a b : List ℕ) (budgets : ℕ) (o : Job × (List ℕ × List ℕ)) : Type 0 where
  pub stands : Stands x y k a b (min budgets (total_of x k a)) o.0 o.1.0 o.1.1
  pub quoted : total_of x k a ≤ quote x.rows x.columns k
  pub ended : total_of x k a ≤ budgets → Shows x.rows y.columns (schoolbook x.columns (cell x.columns a) (cell y.columns b)) o.1.1
