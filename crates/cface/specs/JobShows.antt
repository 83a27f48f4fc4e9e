-- What demand 2 says of the bytes that an opening, a turn and many turns leave: the record's words, and the digits of table and product.
-- Assumes nothing.
use Rattle.std.specs.Prelude.{◌≡◌, false, List, ℕ, ◌^◌, eqb, length}
use Rattle.requests.specs.declared.Size.{Size}
use Rattle.matrix.specs.declared.job.Job.{Job}
use Rattle.matrix.specs.Job.{meant, total_of}
use Rattle.matrix.specs.Opening.{new_job}
use Rattle.matrix.specs.Turn.{size_a, left_of, made_of, on_job}
use Rattle.matrix.specs.Stands.{state_at, job_at}
use Rattle.matrix.specs.Record.{job_in, record_of}
use Rattle.wordbytes.specs.Bytes.{words_in}
use Rattle.wordbytes.specs.ShowsBytes.{ShowsBytes}
use Rattle.cface.specs.Stands.{Held}

-- an opening of A, of size x, and B, of size y, at the width w
pub record OpenedJob (x y : Size) (w : ℕ) (o : Held) : Type 0 where
  pub long : length o.0 ≡ 56
  pub words : words_in o.0 ≡ record_of (new_job x y w) 0 false
  pub table : ShowsBytes (2 ^ meant x w) y.columns (λ i j. 0) o.1.0
  pub product : ShowsBytes x.rows y.columns (λ i j. 0) o.1.1

-- the job that a record's bytes say
abbrev pub found_in : List ℕ → Job
found_in job = job_in (words_in job)

-- a turn of that job on the bytes a, b, t and p as found: the next steps of the list
pub record TurnedJob (job a b t p : List ℕ) (budget : ℕ) (o : Held) : Type 0 where
  pub long : length o.0 ≡ 56
  pub words : words_in o.0
      ≡ record_of (on_job (found_in job) (left_of (found_in job) (words_in a) (words_in b) (words_in t) (words_in p) budget).done) (made_of (found_in job) (words_in a) budget)
      (eqb (left_of (found_in job) (words_in a) (words_in b) (words_in t) (words_in p) budget).done (total_of (size_a (found_in job)) (found_in job).width (words_in a)))
  pub table : ShowsBytes (2 ^ (found_in job).width) (found_in job).n (left_of (found_in job) (words_in a) (words_in b) (words_in t) (words_in p) budget).state.table o.1.0
  pub product : ShowsBytes (found_in job).m (found_in job).n (left_of (found_in job) (words_in a) (words_in b) (words_in t) (words_in p) budget).state.product o.1.1

-- a job of A and B, with their bytes a and b, at the width k, after the first d steps of its list
pub record Reached (x y : Size) (k : ℕ) (a b : List ℕ) (d : ℕ) (o : Held) : Type 0 where
  pub long : length o.0 ≡ 56
  pub words : found_in o.0 ≡ job_at x y k d
  pub table : ShowsBytes (2 ^ k) y.columns (state_at x y k (words_in a) (words_in b) d).table o.1.0
  pub product : ShowsBytes x.rows y.columns (state_at x y k (words_in a) (words_in b) d).product o.1.1
