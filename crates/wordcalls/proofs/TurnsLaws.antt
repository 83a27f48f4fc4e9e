-- A job that is given one turn after another. Assumes nothing.
use mathlib.Core.Path.{◌≡◌, sym, ap, ◌∙◌}
use mathlib.Core.List.{List}
use Prim.Native.Nat.{ℕ, ◌≤◌, min}
use native.Mathlib.Omega.{arith}
use lib.ListN.{length}
use Rattle.cells.specs.Digit.{Matrix}
use Rattle.buffers.specs.Buffer.{cell, Legal, encode}
use Rattle.buffers.proofs.BufferLaws.{encode_length, encode_shows}
use Rattle.requests.specs.declared.Size.{Size}
use Rattle.steps.specs.Matrix.{schoolbook}
use Rattle.steps.proofs.Counts.{total_le}
use Rattle.steps.proofs.Turns.{led}
use Rattle.matrix.specs.declared.job.Job.{Job}
use Rattle.matrix.specs.Job.{meant, total_of}
use Rattle.matrix.specs.Stands.{Stands}
use Rattle.matrix.proofs.Demand3.{end_right}
use Rattle.wordcalls.specs.Turns.{Reached}

-- it stands where the first i budgets lead
abbrev pub Led : Size → Size → ℕ → List ℕ → List ℕ → List ℕ → ℕ → Job → List ℕ → List ℕ → Type 0
Led x y k a b budgets i = Stands x y k a b (led budgets (total_of x k a) i)

-- a table, or a product, is as long at one place as at another
pub as_long : (r n : ℕ) (M N : Matrix) (t t₁ : List ℕ) → t ≡ encode r n M → t₁ ≡ encode r n N → length t₁ ≡ length t
as_long r n M N t t₁ e f = ap length f ∙ encode_length r n N ∙ sym (encode_length r n M) ∙ sym (ap length e)

-- all that demand 3 says of where the budgets lead
pub reached : (x y : Size) (w : ℕ) (a b : List ℕ) → x.rows ≤ 1024 → x.columns ≤ 1024 → y.columns ≤ 1024 → w ≤ 8 → Legal x.rows x.columns a → Legal x.columns y.columns b
    → (budgets : ℕ) (job : Job) (t p : List ℕ) → Stands x y (meant x w) a b (min budgets (total_of x (meant x w) a)) job t p → Reached x y (meant x w) a b budgets (job, (t, p))
unfolding schoolbook
reached x y w a b hm hl hn hw LA LB budgets job t p S = record {
  stands = S;
  quoted = total_le x.rows x.columns (meant x w) (cell x.columns a);
  ended = λ h. rw (S.product_is ∙ end_right x y w a b hm hl hn hw LA LB (min budgets (total_of x (meant x w) a)) (omega arith))
      (encode_shows x.rows y.columns _ (λ i j _ _. omega arith));
}
