-- Theorem: what a block's steps leave as it was: table row 0, and the table's rows from 2 ^ w on. Assumes nothing.
use Prim.Native.Nat.{ℕ, suc, ◌+◌, ◌*◌, ◌^◌, ◌≤◌, ◌<◌}
use mathlib.Core.Path.{◌≡◌, refl, ◌∙◌}
use mathlib.Core.Logic.{◌⊎◌, inl, inr}
use mathlib.Core.List.{List, [], ◌∷◌}
use native.Mathlib.Omega.{arith}
use native.Mathlib.Nat.{le_refl}
use lib.ListN.{take, drop}
use Rattle.cells.specs.Digit.{Matrix}
use Rattle.steps.specs.Step.{Step, table_step, row_step, State, apply, run}
use Rattle.steps.specs.StepList.{each, block_steps, blocks, block_width, block_at, steps}
use Rattle.steps.proofs.Running.{put_other, run_append}
use Rattle.steps.proofs.Loops.{each_split, each_next, each_end}
use Rattle.steps.proofs.Fits.{Fits, AllFit, fit_take, fit_drop, block_fits, steps_fit}

-- table row 0, or one that a block of width w has no number for
abbrev pub Untouched : ℕ → ℕ → Type 0
Untouched w x = (x ≡ 0) ⊎ (2 ^ w ≤ x)

module _ (m l w : ℕ) (B : Matrix) where
  apply_keeps_table : (p : Step) (st : State) → Fits m l w p → (x : ℕ) → Untouched w x → (j : ℕ) → (apply B p st).table x j ≡ st.table x j
  unfolding apply
  apply_keeps_table (table_step s y) st f x (inl e) j = put_other _ _ _ _ _ (λ (q : x ≡ y). omega arith)
  apply_keeps_table (table_step s y) st f x (inr h) j = put_other _ _ _ _ _ (λ (q : x ≡ y). omega arith)
  apply_keeps_table (row_step i d y) st f x u j = refl

  pub run_keeps_table : (ps : List Step) (st : State) → AllFit m l w ps → (x : ℕ) → Untouched w x → (j : ℕ) → (run B ps st).table x j ≡ st.table x j
  unfolding run
  run_keeps_table [] st fs x u j = refl
  run_keeps_table (p ∷ ps) st (f, fs) x u j = run_keeps_table ps (apply B p st) fs x u j ∙ apply_keeps_table p st f x u j

-- a block of width w writes table rows 1 to 2 ^ w - 1 only
pub block_keeps_table : (m : ℕ) (A B : Matrix) (s w : ℕ) (st : State) (x : ℕ) → Untouched w x → (j : ℕ)
    → (run B (block_steps m A s w) st).table x j ≡ st.table x j
block_keeps_table m A B s w st x u j = run_keeps_table m (s + w) w B _ st (block_fits m (s + w) A s w (le_refl (s + w))) x u j

-- the list's last block, which may be narrow: its higher table rows hold at the end what the blocks before it left there
pub last_block_keeps : (m l k : ℕ) (A B : Matrix) (b : ℕ) → suc b ≡ blocks l k → (st : State) (x : ℕ) → 2 ^ block_width l k b ≤ x → (j : ℕ)
    → (run B (steps m l k A) st).table x j ≡ (run B (each 0 b (block_at m l k A)) st).table x j
unfolding steps run
last_block_keeps m l k A B b e st x h j =
    rw (← e, each_split (block_at m l k A) 0 b (suc b) (omega arith) (omega arith), run_append, each_next (block_at m l k A) b (suc b) (omega arith), each_end, run_append)
    (block_keeps_table m A B (b * k) (block_width l k b) _ x (inr h) j)

-- no part of the list writes table row 0, or a row from 2 ^ k on
pub steps_keep_table : (m l k : ℕ) (A B : Matrix) → 0 < k → (d n : ℕ) (st : State) (x : ℕ) → Untouched k x → (j : ℕ)
    → (run B (take n (drop d (steps m l k A))) st).table x j ≡ st.table x j
steps_keep_table m l k A B pos d n st x u j =
    run_keeps_table m l k B _ st (fit_take m l k n _ (fit_drop m l k d (steps m l k A) (steps_fit m l k A pos))) x u j
