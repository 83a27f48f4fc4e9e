-- Theorem: whatever the budgets, turns stand where one run of that many steps would. Assumes nothing.
use Prim.Native.Nat.{ℕ, zero, suc, ◌+◌, ◌≤◌, ◌<◌, min}
use mathlib.Core.Path.{◌≡◌, refl, ap, ◌∙◌}
use mathlib.Core.List.{List, [], ◌∷◌}
use native.Mathlib.Omega.{arith}
use native.Mathlib.Nat.{zero-add}
use lib.ListN.{length, take, drop, get_or}
use lib.Seq.{take-add, take_all}
use Rattle.cells.specs.Digit.{Matrix}
use Rattle.steps.specs.Matrix.{Digits, schoolbook}
use Rattle.steps.specs.Step.{Step, State, run, opening}
use Rattle.steps.specs.StepList.{steps}
use Rattle.steps.specs.Count.{total}
use Rattle.steps.specs.Turn.{after, due, made, Place, turn, Given, none, more, all_budgets, place_at}
use Rattle.steps.proofs.Running.{run_append}
use Rattle.steps.proofs.Product.{steps_right}
use Rattle.steps.proofs.Fits.{fit_take, fit_drop, steps_fit}
use Rattle.steps.proofs.Same.{SameState, run_same}

-- a turn stands at the smaller of the steps that its budget reaches and the list's length
pub made_done : (ps : List Step) (d budget : ℕ) → d ≤ length ps → d + made ps d budget ≡ min (d + budget) (length ps)
unfolding made
made_done ps d budget h = omega arith

-- and so do two turns, by the sum of their budgets
pub min_more : (d b c e : ℕ) → min (min (d + b) e + c) e ≡ min (d + (b + c)) e
min_more d b c e = omega arith

-- whatever stands at d, and after each turn as far on as the budget and the length allow, does so after any turns by the sum of their budgets
pub any_turns : {S : Type 0} (R : ℕ → S → S → Type 0) (Stands : ℕ → S → Type 0) (long : ℕ)
    → ((d budget : ℕ) (s s₁ : S) → d ≤ long → Stands d s → R budget s s₁ → Stands (min (d + budget) long) s₁)
    → (budgets : List ℕ) (d : ℕ) (s s₁ : S) → d ≤ long → Stands d s → Given R s budgets s₁ → Stands (min (d + all_budgets budgets) long) s₁
unfolding all_budgets
any_turns R Stands long one [] d s s₁ h at none = let e : min (d + 0) long ≡ d = omega arith in rw e at
any_turns R Stands long one (budget ∷ budgets) d s s₁ h at (more _ turned rest) =
    rw (← (min_more d budget (all_budgets budgets) long))
    (any_turns R Stands long one budgets (min (d + budget) long) _ s₁ (omega arith) (one d budget s _ h at turned) rest)

-- from the start
pub turns_from_start : {S : Type 0} (R : ℕ → S → S → Type 0) (Stands : ℕ → S → Type 0) (long : ℕ)
    → ((d budget : ℕ) (s s₁ : S) → d ≤ long → Stands d s → R budget s s₁ → Stands (min (d + budget) long) s₁)
    → (budgets : List ℕ) (s s₁ : S) → Stands 0 s → Given R s budgets s₁ → Stands (min (all_budgets budgets) long) s₁
turns_from_start R Stands long one budgets s s₁ at given = rw zero-add at (any_turns R Stands long one budgets 0 s s₁ (omega arith) at given)

budgets_more : (budgets : List ℕ) (i : ℕ) → i < length budgets → all_budgets (take (i + 1) budgets) ≡ all_budgets (take i budgets) + get_or budgets i 0
unfolding all_budgets
budgets_more [] i h = absurd (omega arith)
budgets_more (budget ∷ budgets) zero h = omega arith
budgets_more (budget ∷ budgets) (suc i) h =
    let e : suc i + 1 ≡ suc (i + 1) = omega arith in
    rw e (omega (arith, budgets_more budgets i (omega arith)))

-- how far the first i budgets lead in a list of so many steps
abbrev pub led : List ℕ → ℕ → ℕ → ℕ
led budgets long i = min (all_budgets (take i budgets)) long

pub led_none : (budgets : List ℕ) (long : ℕ) → 0 ≡ led budgets long 0
unfolding all_budgets
led_none [] long = omega arith
led_none (budget ∷ budgets) long = omega arith

pub led_more : (budgets : List ℕ) (long i : ℕ) → i < length budgets → min (led budgets long i + get_or budgets i 0) long ≡ led budgets long (i + 1)
led_more budgets long i h = omega (arith, budgets_more budgets i h)

module _ (B : Matrix) (ps : List Step) (st : State) where
  -- b steps more after a of them are a + b steps
  pub resume : (a b : ℕ) → run B (due a b ps) (after B ps st a) ≡ after B ps st (a + b)
  unfolding due after
  resume a b = rw (take-add, run_append)

  -- past the end nothing changes
  pub after_all : (j : ℕ) → length ps ≤ j → after B ps st j ≡ run B ps st
  unfolding after
  after_all j h = rw (take_all j ps h)

  pub turn_stands : (d budget : ℕ) → d ≤ length ps → turn B ps budget (place_at B ps st d) ≡ place_at B ps st (min (d + budget) (length ps))
  unfolding turn place_at
  turn_stands d budget h =
      let e₁ : d + made ps d budget ≡ min (d + budget) (length ps) = made_done ps d budget h in
      let e₂ : run B (due d (made ps d budget) ps) (after B ps st d) ≡ after B ps st (min (d + budget) (length ps))
      = resume d (made ps d budget) ∙ ap (λ (j : ℕ). after B ps st j) e₁ in
      λ i. record { done = e₁ i; state = e₂ i }

  -- a turn of the list alone
  abbrev pub Made : ℕ → Place → Place → Type 0
  Made budget at at₁ = at₁ ≡ turn B ps budget at

  pub turns_stand : (budgets : List ℕ) (at₁ : Place) → Given Made (record { done = 0; state = st }) budgets at₁ → at₁ ≡ place_at B ps st (min (all_budgets budgets) (length ps))
  unfolding place_at after run
  turns_stand budgets at₁ given =
      turns_from_start Made (λ d at. at ≡ place_at B ps st d) (length ps) (λ d budget at at₁ h e made. made ∙ ap (turn B ps budget) e ∙ turn_stands d budget h) budgets _ at₁ refl given

-- A turn on cells that agree, within the sizes, with those that the first d steps of the list leave: then so do the cells after it, with those
-- that the steps leave at which it stands.
pub turn_same : (k m l n : ℕ) (A B : Matrix) → 0 < k → (start st : State) (d budget : ℕ) → d ≤ total m l k A
    → SameState k m n st (after B (steps m l k A) start d)
    → SameState k m n (turn B (steps m l k A) budget (record { done = d; state = st })).state (after B (steps m l k A) start (min (d + budget) (total m l k A)))
unfolding turn due total
turn_same k m l n A B pos start st d budget h same =
    let ps : List Step = steps m l k A in
    rw (← (made_done ps d budget h), ← (resume B ps start d (made ps d budget)))
    (run_same k m l n B B (λ i j p q. refl) (due d (made ps d budget) ps) st (after B ps start d)
    (fit_take m l k (made ps d budget) (drop d ps) (fit_drop m l k d ps (steps_fit m l k A pos))) same)

-- budgets that reach the total give the schoolbook product
pub turns_right : (m l : ℕ) (A B : Matrix) → Digits m l A → (k : ℕ) → 0 < k → (budgets : List ℕ) → total m l k A ≤ all_budgets budgets
    → (at : Place) → Given (Made B (steps m l k A) opening) (record { done = 0; state = opening }) budgets at → (i : ℕ) → i < m → (j : ℕ) → at.state.product i j ≡ schoolbook l A B i j
unfolding total place_at
turns_right m l A B digits k pos budgets h at given i lt j =
    ap (λ (p : Place). p.state.product i j) (turns_stand B (steps m l k A) opening budgets at given)
    ∙ ap (λ (st : State). st.product i j) (after_all B (steps m l k A) opening (min (all_budgets budgets) (length (steps m l k A))) (omega arith))
    ∙ steps_right m l A B digits k pos i lt j
