-- A job's record as seven words: m, l, n, the width, the steps done, then the last turn's steps made, and 1 if the list has ended, else 0.
-- Assumes nothing.
use Rattle.std.specs.Prelude.{Bool, cond, List, [], ◌∷◌, ℕ, get_or}
use Rattle.matrix.specs.declared.job.Job.{Job}

-- the job that a record says: the last two words are not read
unfoldable pub job_in : List ℕ → Job
job_in ws = record { m = get_or ws 0 0; l = get_or ws 1 0; n = get_or ws 2 0; width = get_or ws 3 0; done = get_or ws 4 0 }

unfoldable pub record_of : Job → ℕ → Bool → List ℕ
record_of job made ended = job.m ∷ job.l ∷ job.n ∷ job.width ∷ job.done ∷ made ∷ cond ended 1 0 ∷ []
