-- What an accepted turn leaves: the record moved on by the steps made, and table and product after the next steps of the list, on the contents as
-- found. Assumes nothing.
use Rattle.std.specs.Prelude.{◌≡◌, List, ℕ, ◌+◌, ◌^◌, eqb}
use Rattle.buffers.specs.Shows.{Shows}
use Rattle.matrix.specs.declared.job.Job.{Job}
use Rattle.matrix.specs.Job.{total_of}
use Rattle.matrix.specs.Record.{record_of}
use Rattle.matrix.specs.Turn.{size_a, made_of, left_of, on_job}

-- the record's words, and then those of table and product
pub record TurnedJob (job : Job) (a b t p : List ℕ) (budget : ℕ) (o : List ℕ × (List ℕ × List ℕ)) : Type 0 where
  pub record_is : o.0 ≡ record_of (on_job job (job.done + made_of job a budget)) (made_of job a budget) (eqb (job.done + made_of job a budget) (total_of (size_a job) job.width a))
  pub table : Shows (2 ^ job.width) job.n (left_of job a b t p budget).state.table o.1.0
  pub product : Shows job.m job.n (left_of job a b t p budget).state.product o.1.1
