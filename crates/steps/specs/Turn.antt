-- Turns: a list of steps carried out by budgets. Assumes nothing.
use Rattle.std.specs.Prelude.{ℕ, ◌+◌, ◌-◌, min, List, [], ◌∷◌, length, take, drop}
use Rattle.cells.specs.Digit.{Matrix}
use Rattle.steps.specs.Step.{Step, State, run}

-- the state after j steps of the list; past its end it is that at the end
unfoldable pub after : Matrix → List Step → State → ℕ → State
after B ps st j = run B (take j ps) st

-- the steps that are due: those after the first `skip`, and no more than `budget` of them
unfoldable pub due : ℕ → ℕ → List Step → List Step
due skip budget ps = take budget (drop skip ps)

-- how many steps a turn makes: as many as the budget allows, or until the list ends
unfoldable pub made : List Step → ℕ → ℕ → ℕ
made ps done budget = min budget (length ps - done)

-- where a list of steps stands: the steps done, and the state
pub record Place : Type 0 where
  pub done : ℕ
  pub state : State

-- the next steps of the list, on the state as found
unfoldable pub turn : Matrix → List Step → ℕ → Place → Place
turn B ps budget at = record {
  done = at.done + made ps at.done budget;
  state = run B (due at.done (made ps at.done budget) ps) at.state;
}

-- turns that are given one after another, a budget each: R budget s s₁ says what a turn leaves of what was there
pub data Given {S : Type 0} (R : ℕ → S → S → Type 0) : S → List ℕ → S → Type 0 where
  none : {s : S} → Given R s [] s
  more : {s s₁ s₂ : S} {budgets : List ℕ} (budget : ℕ) → R budget s s₁ → Given R s₁ budgets s₂ → Given R s (budget ∷ budgets) s₂

unfoldable pub all_budgets : List ℕ → ℕ
all_budgets [] = 0
all_budgets (budget ∷ budgets) = budget + all_budgets budgets

-- after the first j steps from a state
unfoldable pub place_at : Matrix → List Step → State → ℕ → Place
place_at B ps st j = record { done = j; state = after B ps st j }
