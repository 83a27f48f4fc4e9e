-- Demand 3, over the statements of opening and turn: for two legal matrices that fit and any width, after any accepted turns with any
-- budgets the job stands at the smaller of the budgets' sum and the list's length, and its table and product hold exactly what that many
-- first steps leave. At the end the product is the schoolbook one, and the length never exceeds the quote. Assumes nothing.
use mathlib.Core.Path.{◌≡◌, refl, sym, ap, subst, ◌∙◌}
use mathlib.Core.Bool.{Bool, true}
use mathlib.Core.List.{List, []}
use Prim.Native.Nat.{ℕ, zero, suc, ◌+◌, ◌^◌, ◌≤◌, min}
use native.Mathlib.Omega.{arith}
use lib.Dec.{eqb}
use Rattle.std.specs.Prelude.{Ok}
use lib.ListN.{length}
use borrow.Author.Tests.{le-ltb, eq-eqb, ne_eqb}
use Rattle.cells.specs.Digit.{Matrix}
use Rattle.buffers.specs.Buffer.{planes, words, cell, Legal, tab, joined, plane, encode}
use Rattle.buffers.proofs.SizeLaws.{cell_lt}
use Rattle.buffers.proofs.BufferLaws.{tests_legal, cell_encode, encode_legal, encode_within}
use Rattle.requests.specs.declared.Size.{Size}
use Rattle.requests.specs.Answers.{Answer, word, first}
use Rattle.requests.specs.Faults.{faults}
use Rattle.requests.proofs.SizeLaws.{not_over, not_unfit}
use Rattle.requests.proofs.AnswerLaws.{none_first, finished, done_makes}
use Rattle.cells.specs.Counts.{sum}
use Rattle.steps.specs.Matrix.{schoolbook}
use Rattle.steps.specs.Step.{State, run, opening}
use Rattle.steps.specs.StepList.{steps}
use Rattle.steps.specs.Count.{quote, total}
use Rattle.steps.specs.Turn.{after, made, turn, all_budgets, Given}
use Rattle.steps.proofs.Counts.{total_le}
use Rattle.steps.proofs.Product.{steps_right}
use Rattle.steps.proofs.Running.{run_digits, opening_digits}
use Rattle.steps.proofs.Same.{SameState}
use Rattle.steps.proofs.Turns.{made_done, after_all, turn_same, turns_from_start}
use Rattle.walk.specs.Ran.{found}
use Rattle.matrix.specs.declared.job.Job.{Job}
use Rattle.matrix.specs.Job.{meant, table_size, product_size, total_of}
use Rattle.matrix.specs.Misfit.{misfit}
use Rattle.matrix.specs.Opening.{opened, opening_tests, new_job, opened_of, opening_means}
use Rattle.matrix.specs.Turn.{turned, size_a, size_b, found_tests, turn_tests, turned_of, turn_means}
use Rattle.matrix.specs.Stands.{state_at, job_at, Stands}
use Rattle.matrix.specs.Product.{end_of, product_means}
use Rattle.matrix.proofs.JobLaws.{meant_pos, meant_le, Fitting, opening_ready, turn_none}

-- what a host holds of a job between turns: record, table and product
abbrev pub Held : Type 0
Held = Job × (List ℕ × List ℕ)

-- an accepted turn, which is handed the record last answered and the same matrices, table and product
pub record Accepted (a b : List ℕ) (budget : ℕ) (s s₁ : Held) : Type 0 where
  pub made : ℕ
  pub ended : Bool
  pub says : turned (Ok (record { job = s₁.0; made = made; finished = ended })) s₁.1.0 s₁.1.1 ≡ turn_means s.0 a b s.1.0 s.1.1 budget

module _ (x y : Size) (w : ℕ) (a b : List ℕ) (hm : x.rows ≤ 1024) (hl : x.columns ≤ 1024) (hn : y.columns ≤ 1024) (hw : w ≤ 8) (LA : Legal x.rows x.columns a) (LB : Legal x.columns y.columns b) where
  abbrev m : ℕ
  m = x.rows

  abbrev l : ℕ
  l = x.columns

  abbrev n : ℕ
  n = y.columns

  abbrev k : ℕ
  k = meant x w

  abbrev A : Matrix
  A = cell l a

  abbrev B : Matrix
  B = cell n b

  -- the list's length
  abbrev pub long : ℕ
  long = total m l k A

  -- the steps that a turn makes after d of them
  abbrev pub makes : ℕ → ℕ → ℕ
  makes d budget = made (steps m l k A) d budget

  -- the state after the first d steps, and the record and buffers of a job that stands there
  abbrev pub at : ℕ → State
  at d = state_at x y k a b d

  abbrev pub record_at : ℕ → Job
  record_at d = job_at x y k d

  abbrev pub table_at : ℕ → List ℕ
  table_at d = encode (2 ^ k) n (at d).table

  abbrev pub product_at : ℕ → List ℕ
  product_at d = encode m n (at d).product

  k8 : k ≤ 8
  k8 = meant_le x w hw

  no_fault : (d : ℕ) → first (found_tests (record_at d) a b (table_at d) (product_at d)) ≡ 0
  unfolding found_tests faults misfit
  no_fault d =
      let ta = tests_legal m l a LA in
      let tb = tests_legal l n b LB in
      let tt' = tests_legal (2 ^ k) n (table_at d) (encode_legal (2 ^ k) n (at d).table) in
      let tp = tests_legal m n (product_at d) (encode_legal m n (at d).product) in
      none_first (found_tests (record_at d) a b (table_at d) (product_at d)) (
        rw (not_over (size_a (record_at d)) hm hl) (not_over (size_b (record_at d)) hl hn),
        (
          rw (ne_eqb k 0 (λ e. omega (arith, meant_pos x w))) (le-ltb 8 k k8),
          (
            rw (not_unfit (size_a (record_at d)) (length a) LA.long, not_unfit (size_b (record_at d)) (length b) LB.long, not_unfit (table_size (size_b (record_at d)) k) (length (table_at d)) (encode_legal (2 ^ k) n (at d).table).long)
                (not_unfit (product_size (size_a (record_at d)) (size_b (record_at d))) (length (product_at d)) (encode_legal m n (at d).product).long),
            (ta.0, (ta.1, (tb.0, (tb.1, (tt'.0, (tt'.1, (tp.0, (tp.1, tt)))))))),
          ),
        ),
      )

  no_test : (d : ℕ) → d ≤ long → first (turn_tests (record_at d) a b (table_at d) (product_at d)) ≡ 0
  no_test d h = turn_none (record_at d) a b (table_at d) (product_at d) (no_fault d) h

  -- what is found at d is the state at d, within the sizes
  found_at : (d : ℕ) → SameState k m n (found n (table_at d) (product_at d)) (at d)
  unfolding found after
  found_at d =
      let digits = run_digits B _ opening opening_digits in
      record {
        table = λ i j h q. cell_encode (2 ^ k) n (at d).table i j h q (digits.table i j);
        product = λ i j h q. cell_encode m n (at d).product i j h q (digits.product i j);
      }

  -- where a turn leaves a job that stands at d
  abbrev pub next : ℕ → ℕ → ℕ
  next d budget = min (d + budget) long

  -- it is accepted, and leaves the job standing there
  pub turn_at : (d budget : ℕ) → d ≤ long
      → turn_means (record_at d) a b (table_at d) (product_at d) budget
      ≡ (0, (record_at (next d budget), (makes d budget, (eqb (next d budget) long, (table_at (next d budget), product_at (next d budget))))))
  unfolding turn_means turned_of turn total
  turn_at d budget h =
      let S = turn_same k m l n A B (meant_pos x w) opening (found n (table_at d) (product_at d)) d budget h (found_at d) in
      let e = made_done (steps m l k A) d budget h in
      let t = encode_within (2 ^ k) n _ _ S.table in
      let p = encode_within m n _ _ S.product in
      sym (finished (turn_tests (record_at d) a b (table_at d) (product_at d)) _ _ _ (no_test d h) (sym (λ i. (record_at (e i), (makes d budget, (eqb (e i) long, (t i, p i)))))))

  -- a job of these matrices that stands at d
  abbrev pub At : ℕ → Job → List ℕ → List ℕ → Type 0
  At = Stands x y k a b

  meaning : (d budget : ℕ) (job : Job) (t p : List ℕ) → At d job t p → turn_means job a b t p budget ≡ turn_means (record_at d) a b (table_at d) (product_at d) budget
  meaning d budget job t p S = rw (S.record_is, S.table_is, S.product_is)

  -- never refused, where nothing else writes
  pub accepted : (d budget : ℕ) (job : Job) (t p : List ℕ) → d ≤ long → At d job t p → (turn_means job a b t p budget).0 ≡ 0
  accepted d budget job t p h S = ap (λ (o : ℕ × (Job × (ℕ × (Bool × (List ℕ × List ℕ))))). o.0) (meaning d budget job t p S ∙ turn_at d budget h)

  -- a turn after the end makes no step
  pub at_end : (budget : ℕ) → turn_means (record_at long) a b (table_at long) (product_at long) budget ≡ (0, (record_at long, (0, (true, (table_at long, product_at long)))))
  unfolding made total
  at_end budget =
      let z : makes long budget ≡ 0 = omega arith in
      let s : next long budget ≡ long = omega arith in
      turn_at long budget (omega arith) ∙ rw (z, s, eq-eqb long long refl)

  Outcome : Type 0
  Outcome = ℕ × (Job × (ℕ × (Bool × (List ℕ × List ℕ))))

  abbrev Stand : ℕ → Held → Type 0
  Stand d s = At d s.0 s.1.0 s.1.1

  -- a turn is accepted, and leaves the job standing further on
  pub turn_on : (d budget : ℕ) (job : Job) (t p : List ℕ) (r : ℕ) (job₁ : Job) (n : ℕ) (ended : Bool) (t₁ p₁ : List ℕ) → d ≤ long → At d job t p
      → (r, (job₁, (n, (ended, (t₁, p₁))))) ≡ turn_means job a b t p budget → (r ≡ 0) × At (next d budget) job₁ t₁ p₁
  unfolding Outcome
  turn_on d budget job t p r job₁ n ended t₁ p₁ h S says =
      let e = says ∙ meaning d budget job t p S ∙ turn_at d budget h in (
        ap (λ (o : Outcome). o.0) e,
        record {
          record_is = ap (λ (o : Outcome). o.1.0) e;
          table_is = ap (λ (o : Outcome). o.1.1.1.1.0) e;
          product_is = ap (λ (o : Outcome). o.1.1.1.1.1) e;
        },
      )

  one_turn : (d budget : ℕ) (s s₁ : Held) → d ≤ long → Stand d s → Accepted a b budget s s₁ → Stand (next d budget) s₁
  one_turn d budget s s₁ h S given =
      (turn_on d budget s.0 s.1.0 s.1.1 0 s₁.0 given.made given.ended s₁.1.0 s₁.1.1 h S given.says).1

  pub turns_at : (budgets : List ℕ) (s s₁ : Held) → Stand 0 s → Given (Accepted a b) s budgets s₁ → Stand (min (all_budgets budgets) long) s₁
  turns_at = turns_from_start (Accepted a b) Stand long one_turn

  -- the start
  start : At 0 (new_job x y w) (encode (2 ^ k) n (λ i j. 0)) (encode m n (λ i j. 0))
  unfolding after run opening
  start = record { record_is = refl; table_is = refl; product_is = refl }

  -- these matrices are opened at this width, with any table and product of the right length
  pub opens : (t p : List ℕ) → l ≡ y.rows → length t ≡ words (2 ^ k) n → length p ≡ words m n → opening_means x y w a b t p ≡ (0, (record_at 0, (table_at 0, product_at 0)))
  unfolding opening_means opening_tests misfit faults after run opening
  opens t p same lt lp =
      let ta = tests_legal m l a LA in
      let LY : Legal y.rows n b = rw (← same) LB in
      let tb = tests_legal y.rows n b LY in
      sym (finished _ _ _ _ (none_first (opening_tests x y w a b (length t) (length p)) (
        rw (not_over x hm hl) (not_over y (omega arith) hn),
        (
          rw (eq-eqb l y.rows same),
          (
            le-ltb 8 w hw,
            (
              rw (not_unfit x (length a) LA.long, not_unfit y (length b) LY.long, not_unfit (table_size y k) (length t) lt) (not_unfit (product_size x y) (length p) lp),
              (ta.0, (ta.1, (tb.0, (tb.1, tt)))),
            ),
          ),
        ),
      )) refl)

  -- the end: the schoolbook product, for every width
  pub end_right : (d : ℕ) → long ≤ d → product_at d ≡ encode m n (schoolbook l A B)
  unfolding total
  end_right d h =
      encode_within m n _ _
      (λ i j p q. ap (λ (st : State). st.product i j) (after_all B (steps m l k A) opening d h) ∙ steps_right m l A B (λ i j _ _. cell_lt l a i j) k (meant_pos x w) i p j)

  pub quoted : long ≤ quote m l k
  quoted = total_le m l k A

-- ---- the demand, from an opening on

module _ (x y : Size) (w : ℕ) (a b t p : List ℕ) (job₀ : Job) (t₀ p₀ : List ℕ) (says : opened (Ok job₀) t₀ p₀ ≡ opening_means x y w a b t p) where
  Left : Type 0
  Left = ℕ × (Job × (List ℕ × List ℕ))

  as_new : (first (opening_tests x y w a b (length t) (length p)) ≡ 0) × ((job₀, (t₀, p₀)) ≡ opened_of x y w)
  unfolding opening_means
  as_new = done_makes (opening_tests x y w a b (length t) (length p)) _ (opened_of x y w) (job₀, (t₀, p₀)) says

  pub facts : Fitting x y w a b (length t) (length p)
  facts = opening_ready x y w a b (length t) (length p) as_new.0

  -- where a job of these sizes, this width and these matrices stands
  abbrev Standing : ℕ → Job → List ℕ → List ℕ → Type 0
  Standing = Stands x y (meant x w) a b

  pub started : Standing 0 job₀ t₀ p₀
  started =
      let S = start x y w a b facts.m facts.l facts.n facts.width facts.left facts.right in
      record {
        record_is = ap (λ (o : Job × (List ℕ × List ℕ)). o.0) as_new.1 ∙ S.record_is;
        table_is = ap (λ (o : Job × (List ℕ × List ℕ)). o.1.0) as_new.1 ∙ S.table_is;
        product_is = ap (λ (o : Job × (List ℕ × List ℕ)). o.1.1) as_new.1 ∙ S.product_is;
      }

  module _ (budgets : List ℕ) (job₁ : Job) (t₁ p₁ : List ℕ) (given : Given (Accepted a b) (job₀, (t₀, p₀)) budgets (job₁, (t₁, p₁))) where
    abbrev reached : ℕ
    reached = min (all_budgets budgets) (total_of x (meant x w) a)

    -- the job stands at the smaller of the budgets' sum and the list's length, and holds what that many first steps leave
    pub demand_3 : Standing reached job₁ t₁ p₁
    demand_3 = turns_at x y w a b facts.m facts.l facts.n facts.width facts.left facts.right budgets (job₀, (t₀, p₀)) (job₁, (t₁, p₁)) started given

    -- at the end the product is the schoolbook one, whatever the width
    pub demand_3_end : total_of x (meant x w) a ≤ all_budgets budgets → p₁ ≡ encode x.rows y.columns (schoolbook x.columns (cell x.columns a) (cell y.columns b))
    demand_3_end h = demand_3.product_is ∙ end_right x y w a b facts.m facts.l facts.n facts.width facts.left facts.right reached (omega arith)

    -- the next turn is accepted too
    pub demand_3_goes_on : (budget : ℕ) → (turn_means job₁ a b t₁ p₁ budget).0 ≡ 0
    demand_3_goes_on budget = accepted x y w a b facts.m facts.l facts.n facts.width facts.left facts.right reached budget job₁ t₁ p₁ (omega arith) demand_3

    -- after the end a turn is accepted, makes no step and writes nothing
    pub demand_3_ended : total_of x (meant x w) a ≤ all_budgets budgets → (budget : ℕ) → turn_means job₁ a b t₁ p₁ budget ≡ (0, (job₁, (0, (true, (t₁, p₁)))))
    demand_3_ended h budget =
        let e : reached ≡ total_of x (meant x w) a = omega arith in
        let S = subst (λ (d : ℕ). Standing d job₁ t₁ p₁) e demand_3 in
        rw (S.record_is, S.table_is, S.product_is) (at_end x y w a b facts.m facts.l facts.n facts.width facts.left facts.right budget)

  -- the length never exceeds the quote
  pub demand_3_quote : total_of x (meant x w) a ≤ quote x.rows x.columns (meant x w)
  demand_3_quote = total_le x.rows x.columns (meant x w) (cell x.columns a)

-- ---- the whole product as one request

pub product_end : (x y : Size) (w : ℕ) (a b t p : List ℕ) (r : Answer) (t₁ p₁ : List ℕ) → (word r, (t₁, p₁)) ≡ product_means x y w a b t p → word r ≡ 0
    → p₁ ≡ encode x.rows y.columns (schoolbook x.columns (cell x.columns a) (cell y.columns b))
unfolding product_means end_of
product_end x y w a b t p r t₁ p₁ says ok =
    let e = done_makes (opening_tests x y w a b (length t) (length p)) _ _ (t₁, p₁) (rw ok at says) in
    ap (λ (o : List ℕ × List ℕ). o.1) e.1
    ∙ encode_within x.rows y.columns _ _ (λ i j h q. steps_right x.rows x.columns (cell x.columns a) (cell y.columns b) (λ i j _ _. cell_lt x.columns a i j) (meant x w) (meant_pos x w) i h j)

-- so it is equal for every width
pub widths_agree : (x y : Size) (w w' : ℕ) (a b t p t' p' : List ℕ) (r r' : Answer) (t₁ p₁ t₂ p₂ : List ℕ)
    → (word r, (t₁, p₁)) ≡ product_means x y w a b t p → word r ≡ 0 → (word r', (t₂, p₂)) ≡ product_means x y w' a b t' p' → word r' ≡ 0 → p₁ ≡ p₂
widths_agree x y w w' a b t p t' p' r r' t₁ p₁ t₂ p₂ says ok says' ok' =
    product_end x y w a b t p r t₁ p₁ says ok ∙ sym (product_end x y w' a b t' p' r' t₂ p₂ says' ok')

-- ---- two jobs in turns

-- p is the product of a job that was opened at some width and given accepted turns, until its budgets reached the list's length
pub record Ended (x y : Size) (a b p : List ℕ) : Type 0 where
  pub width : ℕ
  pub table : List ℕ
  pub product : List ℕ
  pub held : Held
  pub says : opened (Ok held.0) held.1.0 held.1.1 ≡ opening_means x y width a b table product
  pub budgets : List ℕ
  pub last : Job
  pub last_table : List ℕ
  pub given : Given (Accepted a b) held budgets (last, (last_table, p))
  pub reached : total_of x (meant x width) a ≤ all_budgets budgets

ended_right : (x y : Size) (a b p : List ℕ) → Ended x y a b p → p ≡ encode x.rows y.columns (schoolbook x.columns (cell x.columns a) (cell y.columns b))
ended_right x y a b p E =
    demand_3_end x y E.width a b E.table E.product E.held.0 E.held.1.0 E.held.1.1 E.says E.budgets E.last E.last_table p E.given E.reached

-- their products are equal, whatever the widths and the budgets
pub jobs_agree : (x y : Size) (a b p p' : List ℕ) → Ended x y a b p → Ended x y a b p' → p ≡ p'
jobs_agree x y a b p p' E E' = ended_right x y a b p E ∙ sym (ended_right x y a b p' E')

-- ---- no columns

-- A has none: there is no step (Counts.no-columns), and the product is zero
pub no_middle : (m n : ℕ) (A B : Matrix) → encode m n (schoolbook 0 A B) ≡ encode m n (λ i j. 0)
unfolding schoolbook sum
no_middle m n A B = refl

-- B has none: the total is still that of A, and every buffer of no columns is empty
pub no_words : (r : ℕ) (M : Matrix) → encode r 0 M ≡ []
unfolding encode joined plane tab planes
no_words zero M = refl
no_words (suc r) M = no_words r (λ i. M (suc i))
