-- Shown out by demand 3: a turn that moves the record and writes nothing, one that multiplies all at once and then only counts, and totals
-- that do not come from A; and, of the requests for a job, an implementation that refuses everything and one with a fixed answer. One cell by
-- one cell at width 1 is enough: its list is a table step, and a plus where the cell holds 1. Each known sum is computed from the requests'
-- own statements. Assumes nothing.
use mathlib.Core.Path.{◌≡◌, refl, sym, ap, ◌∙◌}
use mathlib.Core.Bool.{Bool, true, false}
use mathlib.Core.List.{List, [], ◌∷◌}
use Prim.Native.Nat.{ℕ}
use native.Mathlib.Omega.{arith}
use lib.Count.{count_trailing_zeros}
use Rattle.std.specs.Prelude.{Result}
use lib.ListN.{get_or}
use Rattle.cells.specs.Any.{any}
use Rattle.cells.specs.Bit.{bit, word_of}
use Rattle.cells.specs.Counts.{sum, is, bits_of}
use Rattle.cells.specs.Digit.{combine, unit_of, sign_of}
use Rattle.buffers.specs.Buffer.{planes, wide, words, bit_at, unit, sign, cell, tab, joined, plane, encode}
use Rattle.buffers.specs.Fault.{stray, padded}
use Rattle.requests.specs.declared.Size.{Size}
use Rattle.requests.specs.declared.Reason.{Reason}
use Rattle.requests.specs.Answers.{Answer, word, held, told, first, left, answered}
use Rattle.requests.specs.Sizes.{over, unfit}
use Rattle.requests.specs.Faults.{faults}
use Rattle.requests.proofs.ShownOut.{ShownOut, shown_out}
use Rattle.steps.specs.Step.{lowest_bit, cleared, put, apply, run, opening}
use Rattle.steps.specs.StepList.{unless0, many, each, table_steps, row_steps, block_steps, blocks, block_width, steps}
use Rattle.steps.specs.Count.{quote, total}
use Rattle.steps.specs.Width.{better, cheapest, default_width}
use Rattle.steps.specs.Turn.{due, made, turn}
use Rattle.walk.specs.Ran.{found}
use Rattle.matrix.specs.declared.job.Job.{Job}
use Rattle.matrix.specs.declared.turn.Turned.{Turned}
use Rattle.matrix.specs.Job.{meant}
use Rattle.matrix.specs.Misfit.{misfit}
use Rattle.matrix.specs.Quote.{quote_tests, quote_means}
use Rattle.matrix.specs.Width.{width_means}
use Rattle.matrix.specs.Total.{total_tests, total_means}
use Rattle.matrix.specs.Opening.{opening_tests, opening_means}
use Rattle.matrix.specs.Product.{end_of, product_means}
use Rattle.matrix.specs.Turn.{found_tests, turn_tests, turned, turned_of, turn_means}
use Rattle.matrix.proofs.Outcomes.{turned_left}

abbrev one : Size
one = record { rows = 1; columns = 1 }

abbrev square : Size
square = record { rows = 8; columns = 8 }

abbrev none : Size
none = record { rows = 0; columns = 0 }

-- one cell that holds 0, and one that holds 1
abbrev zero1 : List ℕ
zero1 = 0 ∷ 0 ∷ []

abbrev one1 : List ℕ
one1 = 1 ∷ 0 ∷ []

-- a table of two rows of one cell, as opened and as made
abbrev new_table : List ℕ
new_table = 0 ∷ 0 ∷ 0 ∷ 0 ∷ []

abbrev made_table : List ℕ
made_table = 0 ∷ 0 ∷ 1 ∷ 0 ∷ []

abbrev job : ℕ → Job
job d = record { m = 1; l = 1; n = 1; width = 1; done = d }

-- .. and one without any cell, at a width
abbrev empty_job : ℕ → Job
empty_job w = record { m = 0; l = 0; n = 0; width = w; done = 0 }

-- what a turn is handed: record, A, B, table, product, budget; and what it leaves
abbrev Handed : Type 0
Handed = Job × List ℕ × List ℕ × List ℕ × List ℕ × ℕ

abbrev Left : Type 0
Left = Job × (ℕ × (Bool × (List ℕ × List ℕ)))

abbrev means : Handed → ℕ × Left
means h = turn_means h.0 h.1 h.2 h.3 h.4 h.5

abbrev opened : ℕ → Handed
opened budget = (job 0, one1, one1, new_table, zero1, budget)

abbrev gone_on : Handed
gone_on = (job 1, one1, one1, made_table, zero1, 1)

pub record Sums : Type 0 where
  pub first_step : means (opened 1) ≡ (0, (job 1, (1, (false, (made_table, zero1)))))
  pub second_step : means gone_on ≡ (0, (job 2, (1, (true, (made_table, one1)))))
  pub both_steps : means (opened 2) ≡ (0, (job 2, (2, (true, (made_table, one1)))))
  pub zero_cell : means (job 0, zero1, one1, new_table, zero1, 2) ≡ (0, (job 1, (1, (true, (made_table, zero1)))))
  pub totals : (total_means one 1 zero1 ≡ (0, 1)) × (total_means one 1 one1 ≡ (0, 2))
  pub quoted : (quote_means one 1 ≡ (0, 2)) × (quote_means none 1 ≡ (0, 0))
  pub chosen : (width_means one 0 ≡ (0, 1)) × (width_means square 0 ≡ (0, 4))
  pub opened_at : (opening_means none none 1 [] [] [] [] ≡ (0, (empty_job 1, ([], [])))) × (opening_means none none 2 [] [] [] [] ≡ (0, (empty_job 2, ([], []))))
  pub multiplied : (product_means one one 1 one1 one1 new_table zero1 ≡ (0, (made_table, one1))) × (product_means one one 1 zero1 one1 new_table zero1 ≡ (0, (made_table, zero1)))

pub sums : Sums
unfolding turn_means turn_tests found_tests turned_of turn made opening_means opening_tests product_means end_of total_means total_tests quote_means quote_tests width_means default_width cheapest better quote total sum meant misfit due found steps blocks block_width block_steps row_steps table_steps each many unless0 bits_of lowest_bit cleared put apply run opening answered first left over unfit faults stray padded any unit sign cell bit_at bit planes wide words encode joined plane tab word_of unit_of sign_of combine is count_trailing_zeros
sums = record { first_step = refl; second_step = refl; both_steps = refl; zero_cell = refl; totals = (refl, refl); quoted = (refl, refl); chosen = (refl, refl); opened_at = (refl, refl); multiplied = (refl, refl) }

one_zero : one1 ≡ zero1 → ⊥
one_zero e = let z : ◌≡◌ {A = ℕ} 1 0 = ap (λ (l : List ℕ). get_or l 0 0) e in omega arith

-- ---- turns

-- a turn that answers as its statement says, with the table and the product that it leaves
module _ (f : Handed → Result Turned Reason × List ℕ × List ℕ) (meets : (h : Handed) → turned (f h).0 (f h).1 (f h).2 ≡ means h) where
  abbrev table_left : Handed → List ℕ
  table_left h = (f h).1

  abbrev product_left : Handed → List ℕ
  product_left h = (f h).2

  buffers_are : (h : Handed) (o : Left) → means h ≡ (0, o) → (table_left h, product_left h) ≡ o.1.1.1
  buffers_are h o says = sym (turned_left (f h).0 (f h).1 (f h).2) ∙ ap (λ (v : ℕ × Left). v.1.1.1.1) (meets h ∙ says)

  product_is : (h : Handed) (o : Left) → means h ≡ (0, o) → product_left h ≡ o.1.1.1.1
  product_is h o says = ap (λ (v : List ℕ × List ℕ). v.1) (buffers_are h o says)

  table_is : (h : Handed) (o : Left) → means h ≡ (0, o) → table_left h ≡ o.1.1.1.0
  table_is h o says = ap (λ (v : List ℕ × List ℕ). v.0) (buffers_are h o says)

  -- it does not only move the record: it writes the table, and it writes the product
  pub writes_table : ((h : Handed) → table_left h ≡ h.3) → ⊥
  writes_table silent =
      let e = sym (table_is (opened 1) _ sums.first_step) ∙ silent (opened 1) in
      let z : ◌≡◌ {A = ℕ} 1 0 = ap (λ (l : List ℕ). get_or l 2 0) e in
      omega arith

  pub writes_product : ((h : Handed) → product_left h ≡ h.4) → ⊥
  writes_product silent = one_zero (sym (product_is gone_on _ sums.second_step) ∙ silent gone_on)

  -- it does not multiply all at once: what the first turn leaves depends on its budget
  pub not_at_once : ((budget budget' : ℕ) → product_left (opened budget) ≡ product_left (opened budget')) → ⊥
  not_at_once eager =
      one_zero (sym (product_is (opened 2) _ sums.both_steps) ∙ eager 2 1 ∙ product_is (opened 1) _ sums.first_step)

-- ---- totals

module _ (f : Size → ℕ → List ℕ → Result ℕ Reason) (meets : (x : Size) (w : ℕ) (a : List ℕ) → told 0 (f x w a) ≡ total_means x w a) where
  steps_is : (a : List ℕ) (n : ℕ) → total_means one 1 a ≡ (0, n) → held 0 (f one 1 a) ≡ n
  steps_is a n says = ap (λ (v : ℕ × ℕ). v.1) (meets one 1 a ∙ says)

  -- a total does not come from the sizes alone, and so is not the quote either
  pub not_invented : ((x : Size) (w : ℕ) (a a' : List ℕ) → held 0 (f x w a) ≡ held 0 (f x w a')) → ⊥
  not_invented invents =
      let z : ◌≡◌ {A = ℕ} 1 2 = sym (steps_is zero1 1 sums.totals.0) ∙ invents one 1 zero1 one1 ∙ steps_is one1 2 sums.totals.1 in
      omega arith

  pub not_the_quote : ((x : Size) (w : ℕ) (a : List ℕ) → held 0 (f x w a) ≡ (quote_means x w).1) → ⊥
  not_the_quote invents =
      let z : ◌≡◌ {A = ℕ} 1 2 = sym (steps_is zero1 1 sums.totals.0) ∙ invents one 1 zero1 ∙ ap (λ (v : ℕ × ℕ). v.1) sums.quoted.0 in
      omega arith

-- ---- refusing everything, and a fixed answer

-- a quote, a width and a total answer by a word and a number, an opening and a turn by a word and what goes with it, as `told`, `opened` and
-- `turned` read them off a Result
pub quote_shown_out : ShownOut {X = ℕ} {I = Size} {R = ℕ} {S = ℕ} (λ n. n) (λ w x. quote_means x w)
quote_shown_out = shown_out (λ (n : ℕ). n) _ 1 one none 2 0 sums.quoted.0 sums.quoted.1 (λ e. omega arith)

-- a default that is the same for all sizes too
pub width_shown_out : ShownOut {X = ℕ} {I = Size} {R = ℕ} {S = ℕ} (λ n. n) (λ w x. width_means x w)
width_shown_out = shown_out (λ (n : ℕ). n) _ 0 one square 1 4 sums.chosen.0 sums.chosen.1 (λ e. omega arith)

pub total_shown_out : ShownOut {X = Size × ℕ} {I = List ℕ} {R = ℕ} {S = ℕ} (λ n. n) (λ x a. total_means x.0 x.1 a)
total_shown_out = shown_out (λ (n : ℕ). n) _ (one, 1) zero1 one1 1 2 sums.totals.0 sums.totals.1 (λ e. omega arith)

pub opening_shown_out : ShownOut {X = Size × Size × List ℕ × List ℕ × List ℕ × List ℕ} {I = ℕ} {S = Job × (List ℕ × List ℕ)} (λ (n : ℕ). n)
    (λ x w. opening_means x.0 x.1 w x.2 x.3 x.4 x.5)
opening_shown_out =
    shown_out (λ (n : ℕ). n) _ (none, none, [], [], [], []) 1 2 (empty_job 1, ([], [])) (empty_job 2, ([], [])) sums.opened_at.0 sums.opened_at.1
    (λ e. let z : ◌≡◌ {A = ℕ} 1 2 = ap (λ (o : Job × (List ℕ × List ℕ)). o.0.width) e in omega arith)

pub turn_shown_out : ShownOut {X = Job × List ℕ × List ℕ × List ℕ × ℕ} {I = List ℕ} {S = Left} (λ (n : ℕ). n) (λ x a. turn_means x.0 a x.1 x.2 x.3 x.4)
turn_shown_out =
    shown_out (λ (n : ℕ). n) _ (job 0, one1, new_table, zero1, 2) one1 zero1 (job 2, (2, (true, (made_table, one1)))) (job 1, (1, (true, (made_table, zero1)))) sums.both_steps sums.zero_cell
    (λ e. one_zero (ap (λ (o : Left). o.1.1.1.1) e))

pub product_shown_out : ShownOut {X = Size × Size × ℕ × List ℕ × List ℕ × List ℕ} {I = List ℕ} {R = Answer} {S = List ℕ × List ℕ} word
    (λ x a. product_means x.0 x.1 x.2 a x.3 x.4 x.5)
product_shown_out =
    shown_out word _ (one, one, 1, one1, new_table, zero1) one1 zero1 (made_table, one1) (made_table, zero1) sums.multiplied.0 sums.multiplied.1
    (λ e. one_zero (ap (λ (o : List ℕ × List ℕ). o.1) e))
