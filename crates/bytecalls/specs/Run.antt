-- What is right after an opening and a turn for each of some budgets. Assumes nothing.
use Rattle.std.specs.Prelude.{List, ℕ, ◌≤◌, min}
use Rattle.buffers.specs.Buffer.{cell}
use Rattle.requests.specs.declared.Size.{Size}
use Rattle.steps.specs.Matrix.{schoolbook}
use Rattle.steps.specs.Turn.{all_budgets}
use Rattle.matrix.specs.Job.{meant, total_of}
use Rattle.wordbytes.specs.Bytes.{words_in}
use Rattle.wordbytes.specs.ShowsBytes.{ShowsBytes}
use Rattle.cface.specs.Stands.{Held}
use Rattle.cface.specs.JobShows.{Reached}

-- the job stands at the smaller of the budgets' sum and the list's length; where they reach it, the product is the schoolbook one
pub record Run (x y : Size) (w : ℕ) (a b budgets : List ℕ) (o : Held) : Type 0 where
  pub reached : Reached x y (meant x w) a b (min (all_budgets budgets) (total_of x (meant x w) (words_in a))) o
  pub end : total_of x (meant x w) (words_in a) ≤ all_budgets budgets
      → ShowsBytes x.rows y.columns (schoolbook x.columns (cell x.columns (words_in a)) (cell y.columns (words_in b))) o.1.1
