-- Demand 3 of a job that the C face opens with width 0: its width is the default for A's sizes, which quotes least, and all that the demand says holds
-- of that width, in bytes. Assumes nothing.
use mathlib.Core.Path.{◌≡◌}
use mathlib.Core.List.{List}
use Prim.Native.Nat.{ℕ, ◌≤◌, min}
use Rattle.buffers.specs.Buffer.{cell, encode}
use Rattle.requests.specs.declared.Size.{Size}
use Rattle.steps.specs.Matrix.{schoolbook}
use Rattle.steps.specs.Count.{quote}
use Rattle.steps.specs.Width.{default_width}
use Rattle.steps.specs.Turn.{all_budgets, Given}
use Rattle.steps.proofs.Counts.{total_le}
use Rattle.matrix.specs.Job.{meant, total_of}
use Rattle.matrix.specs.Stands.{job_at}
use Rattle.matrix.specs.Record.{record_of}
use Rattle.wordbytes.specs.Bytes.{words_in, bytes_of}
use Rattle.cface.specs.Open.{open_face}
use Rattle.cface.specs.Turn.{turn_face}
use Rattle.cface.specs.Stands.{Held, Stands}
use Rattle.cface.proofs.Turns.{Accepted, started, demand_3, demand_3_end, demand_3_goes_on, demand_3_record}

module _ (x y : Size) (job a b t p job₀ t₀ p₀ : List ℕ) (says : ◌≡◌ {A = ℕ × Held} (0, (job₀, (t₀, p₀))) (open_face x y 0 job a b t p)) where
  abbrev k : ℕ
  k = default_width x.rows x.columns

  pub default_started : Stands x y k a b 0 job₀ t₀ p₀
  unfolding meant
  default_started = started x y 0 job a b t p job₀ t₀ p₀ says

  -- the length never exceeds the quote at that width
  pub default_quote : total_of x k (words_in a) ≤ quote x.rows x.columns k
  default_quote = total_le x.rows x.columns k (cell x.columns (words_in a))

  module _ (budgets : List ℕ) (job₁ t₁ p₁ : List ℕ) (given : Given (Accepted a b) (job₀, (t₀, p₀)) budgets (job₁, (t₁, p₁))) where
    pub default_stands : Stands x y k a b (min (all_budgets budgets) (total_of x k (words_in a))) job₁ t₁ p₁
    unfolding meant
    default_stands = demand_3 x y 0 job a b t p job₀ t₀ p₀ says budgets job₁ t₁ p₁ given

    -- the record's words, the default among them
    pub default_record : words_in job₁ ≡ record_of (job_at x y k (min (all_budgets budgets) (total_of x k (words_in a)))) default_stands.made default_stands.ended
    unfolding meant default_stands
    default_record = demand_3_record x y 0 job a b t p job₀ t₀ p₀ says budgets job₁ t₁ p₁ given

    pub default_end : total_of x k (words_in a) ≤ all_budgets budgets → p₁ ≡ bytes_of (encode x.rows y.columns (schoolbook x.columns (cell x.columns (words_in a)) (cell y.columns (words_in b))))
    unfolding meant
    default_end = demand_3_end x y 0 job a b t p job₀ t₀ p₀ says budgets job₁ t₁ p₁ given

    pub default_goes_on : (budget : ℕ) → (turn_face job₁ a b t₁ p₁ budget).0 ≡ 0
    default_goes_on = demand_3_goes_on x y 0 job a b t p job₀ t₀ p₀ says budgets job₁ t₁ p₁ given
