-- What `turn` answers and leaves: the next steps of the list, on the contents as found. Assumes nothing.
use Rattle.std.specs.Prelude.{Bool, false, ◌||◌, List, [], ◌∷◌, ◌++◌, Result, ℕ, ◌^◌, ltb, eqb, length}
use Rattle.buffers.specs.Buffer.{cell, encode}
use Rattle.requests.specs.declared.Size.{Size}
use Rattle.requests.specs.declared.Buffer.TheVariants.{First, Second, Third, Fourth}
use Rattle.requests.specs.declared.Reason.{Reason}
use Rattle.requests.specs.Answers.{Tests, word, held, answered}
use Rattle.requests.specs.Sizes.{over}
use Rattle.requests.specs.Faults.{pair_faults}
use Rattle.steps.specs.Step.{Step}
use Rattle.steps.specs.StepList.{steps}
use Rattle.steps.specs.Turn.{made, Place, turn}
use Rattle.walk.specs.Ran.{found}
use Rattle.matrix.specs.declared.job.Job.{Job}
use Rattle.matrix.specs.declared.turn.Turned.{Turned}
use Rattle.matrix.specs.Opening.{no_job}
use Rattle.matrix.specs.Job.{unwide, table_size, product_size, total_of}
use Rattle.matrix.specs.Misfit.{misfit}

abbrev pub size_a : Job → Size
size_a job = record { rows = job.m; columns = job.l }

abbrev pub size_b : Job → Size
size_b job = record { rows = job.l; columns = job.n }

-- the tests of the cells: A, B, table, product
abbrev pub cell_tests : Job → List ℕ → List ℕ → List ℕ → List ℕ → Tests
cell_tests job a b t p = pair_faults First Second (size_a job) (size_b job) a b ++ pair_faults Third Fourth (table_size (size_b job) job.width) (product_size (size_a job) (size_b job)) t p

-- the tests of sizes, width, lengths and cells
unfoldable pub found_tests : Job → List ℕ → List ℕ → List ℕ → List ℕ → Tests
found_tests job a b t p =
    (over (size_a job) || over (size_b job), 1)
    ∷ (unwide job.width, 3)
    ∷ (misfit (size_a job) (size_b job) job.width (length a) (length b) (length t) (length p), 4)
    ∷ cell_tests job a b t p

-- the test of the steps done
abbrev pub late_tests : Job → List ℕ → Tests
late_tests job a = (ltb (total_of (size_a job) job.width a) job.done, 7) ∷ []

unfoldable pub turn_tests : Job → List ℕ → List ℕ → List ℕ → List ℕ → Tests
turn_tests job a b t p = found_tests job a b t p ++ late_tests job a

-- the list of the job's steps
abbrev pub steps_of : Job → List ℕ → List Step
steps_of job a = steps job.m job.l job.width (cell job.l a)

-- as many steps as the budget allows, or until the list ends
abbrev pub made_of : Job → List ℕ → ℕ → ℕ
made_of job a budget = made (steps_of job a) job.done budget

-- the next steps of the list, on the contents as found
abbrev pub left_of : Job → List ℕ → List ℕ → List ℕ → List ℕ → ℕ → Place
left_of job a b t p budget = turn (cell job.n b) (steps_of job a) budget (record { done = job.done; state = found job.n t p })

abbrev pub on_job : Job → ℕ → Job
on_job job done = record { m = job.m; l = job.l; n = job.n; width = job.width; done = done }

abbrev pub no_turn : Turned
no_turn = record { job = no_job; made = 0; finished = false }

-- what a turn answers and leaves: its word, its record, the steps made and whether the list is finished, and then table and product; refused, there
-- is no record, and zeros and no stand for what is not there
abbrev pub turned : Result Turned Reason → List ℕ → List ℕ → ℕ × (Job × (ℕ × (Bool × (List ℕ × List ℕ))))
turned r t p = (word r, ((held no_turn r).job, ((held no_turn r).made, ((held no_turn r).finished, (t, p)))))

-- the new record, the steps made, whether the list is finished, and then table and product
unfoldable pub turned_of : Job → List ℕ → List ℕ → List ℕ → List ℕ → ℕ → Job × (ℕ × (Bool × (List ℕ × List ℕ)))
turned_of job a b t p budget =
    let next : Place = left_of job a b t p budget in (
      on_job job next.done,
      (
        made_of job a budget,
        (eqb next.done (total_of (size_a job) job.width a), (encode (2 ^ job.width) job.n next.state.table, encode job.m job.n next.state.product)),
      ),
    )

unfoldable pub turn_means : Job → List ℕ → List ℕ → List ℕ → List ℕ → ℕ → ℕ × (Job × (ℕ × (Bool × (List ℕ × List ℕ))))
turn_means job a b t p budget = answered (turn_tests job a b t p) (no_job, (0, (false, (t, p)))) (turned_of job a b t p budget)
