-- Demand 3 of a job that is opened with width 0: its width is the default for A's sizes, which quotes least, and all that the demand says holds of that
-- width. Assumes nothing.
use mathlib.Core.Path.{◌≡◌}
use mathlib.Core.List.{List}
use Prim.Native.Nat.{ℕ, ◌^◌, ◌≤◌, min}
use Rattle.std.specs.Prelude.{Ok}
use lib.ListN.{length}
use Rattle.buffers.specs.Buffer.{words, cell, encode}
use Rattle.requests.specs.declared.Size.{Size}
use Rattle.steps.specs.Matrix.{schoolbook}
use Rattle.steps.specs.Count.{quote}
use Rattle.steps.specs.Width.{default_width}
use Rattle.steps.specs.Turn.{all_budgets, Given}
use Rattle.steps.proofs.Width.{default_is}
use Rattle.matrix.specs.declared.job.Job.{Job}
use Rattle.matrix.specs.Job.{meant, total_of}
use Rattle.matrix.specs.Opening.{opened, opening_means}
use Rattle.matrix.specs.Turn.{turn_means}
use Rattle.matrix.specs.Stands.{job_at, Stands}
use Rattle.matrix.proofs.Demand3.{Accepted, facts, started, demand_3, demand_3_end, demand_3_goes_on, demand_3_quote}

module _ (x y : Size) (a b t p : List ℕ) (job₀ : Job) (t₀ p₀ : List ℕ) (says : opened (Ok job₀) t₀ p₀ ≡ opening_means x y 0 a b t p) where
  abbrev k : ℕ
  k = default_width x.rows x.columns

  -- the record holds it, and the table that was lent has 2 ^ k rows
  pub default_record : job₀ ≡ job_at x y k 0
  unfolding meant
  default_record = (started x y 0 a b t p job₀ t₀ p₀ says).record_is

  pub default_table : length t ≡ words (2 ^ k) y.columns
  unfolding meant
  default_table = (facts x y 0 a b t p job₀ t₀ p₀ says).table

  -- the length never exceeds the quote at that width, and no width from 1 to 8 quotes less
  pub default_quote : total_of x k a ≤ quote x.rows x.columns k
  unfolding meant
  default_quote = demand_3_quote x y 0 a b t p job₀ t₀ p₀ says

  pub default_least : (w : ℕ) → 1 ≤ w → w ≤ 8 → quote x.rows x.columns k ≤ quote x.rows x.columns w
  default_least = (default_is x.rows x.columns).lowest

  module _ (budgets : List ℕ) (job₁ : Job) (t₁ p₁ : List ℕ) (given : Given (Accepted a b) (job₀, (t₀, p₀)) budgets (job₁, (t₁, p₁))) where
    pub default_stands : Stands x y k a b (min (all_budgets budgets) (total_of x k a)) job₁ t₁ p₁
    unfolding meant
    default_stands = demand_3 x y 0 a b t p job₀ t₀ p₀ says budgets job₁ t₁ p₁ given

    pub default_end : total_of x k a ≤ all_budgets budgets → p₁ ≡ encode x.rows y.columns (schoolbook x.columns (cell x.columns a) (cell y.columns b))
    unfolding meant
    default_end = demand_3_end x y 0 a b t p job₀ t₀ p₀ says budgets job₁ t₁ p₁ given

    pub default_goes_on : (budget : ℕ) → (turn_means job₁ a b t₁ p₁ budget).0 ≡ 0
    default_goes_on = demand_3_goes_on x y 0 a b t p job₀ t₀ p₀ says budgets job₁ t₁ p₁ given
