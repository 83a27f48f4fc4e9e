-- What `opening` answers and leaves: a record, and zero in table and product. Assumes nothing.
use Rattle.std.specs.Prelude.{◌||◌, List, [], ◌∷◌, ◌++◌, Result, ℕ, ◌^◌, ltb, length}
use Rattle.buffers.specs.Buffer.{encode}
use Rattle.requests.specs.declared.Size.{Size}
use Rattle.requests.specs.declared.Buffer.TheVariants.{First, Second}
use Rattle.requests.specs.declared.Reason.{Reason}
use Rattle.requests.specs.Answers.{Tests, word, held, answered}
use Rattle.requests.specs.Sizes.{over}
use Rattle.requests.specs.Faults.{pair_faults}
use Rattle.matrix.specs.declared.job.Job.{Job}
use Rattle.matrix.specs.Job.{meant, unmatched}
use Rattle.matrix.specs.Misfit.{misfit}

-- the tests of sizes, width and lengths; t and p are how many words table and product have
abbrev pub size_tests : Size → Size → ℕ → List ℕ → List ℕ → ℕ → ℕ → Tests
size_tests x y width a b t p = (over x || over y, 1) ∷ (unmatched x y, 2) ∷ (ltb 8 width, 3) ∷ (misfit x y (meant x width) (length a) (length b) t p, 4) ∷ []

-- .. and cells
unfoldable pub opening_tests : Size → Size → ℕ → List ℕ → List ℕ → ℕ → ℕ → Tests
opening_tests x y width a b t p = size_tests x y width a b t p ++ pair_faults First Second x y a b

abbrev pub no_job : Job
no_job = record { m = 0; l = 0; n = 0; width = 0; done = 0 }

-- what an opening answers and leaves: its word and its record, and then table and product; refused, there is no record, and zeros stand for it
abbrev pub opened : Result Job Reason → List ℕ → List ℕ → ℕ × (Job × (List ℕ × List ℕ))
opened r t p = (word r, (held no_job r, (t, p)))

abbrev pub new_job : Size → Size → ℕ → Job
new_job x y width = record { m = x.rows; l = x.columns; n = y.columns; width = meant x width; done = 0 }

-- the record, and then table and product
abbrev pub opened_of : Size → Size → ℕ → Job × (List ℕ × List ℕ)
opened_of x y width = (new_job x y width, (encode (2 ^ meant x width) y.columns (λ i j. 0), encode x.rows y.columns (λ i j. 0)))

unfoldable pub opening_means : Size → Size → ℕ → List ℕ → List ℕ → List ℕ → List ℕ → ℕ × (Job × (List ℕ × List ℕ))
opening_means x y width a b t p = answered (opening_tests x y width a b (length t) (length p)) (no_job, (t, p)) (opened_of x y width)
