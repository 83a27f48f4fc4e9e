-- Theorems: the list is made from A's own cells, and running it takes only the cells within the sizes. Assumes nothing.
use Prim.Native.Nat.{ℕ, ◌+◌, ◌*◌, ◌^◌, ◌≤◌, ◌<◌}
use mathlib.Core.Path.{◌≡◌, sym, ◌∙◌}
use mathlib.Core.List.{List, [], ◌∷◌}
use native.Mathlib.Omega.{arith}
use native.Mathlib.Decide.{ℕ_discrete}
use Rattle.cells.specs.Digit.{Matrix}
use Rattle.steps.specs.Matrix.{Row, SameCells}
use Rattle.steps.specs.Step.{Step, table_step, row_step, State, lowest_bit, cleared, put, apply, run}
use Rattle.steps.specs.StepList.{row_steps, block_steps, blocks, block_width, steps}
use Rattle.steps.proofs.BlockBits.{bits_same}
use Rattle.steps.proofs.Running.{put_same, put_other}
use Rattle.steps.proofs.Loops.{each_same, width_within}
use Rattle.steps.proofs.Fits.{Fits, AllFit}

-- ---- the list

row_same : (m l : ℕ) (A A' : Matrix) → SameCells m l A A' → (s w : ℕ) → s + w ≤ l → (i : ℕ) → i < m → row_steps A s w i ≡ row_steps A' s w i
unfolding row_steps
row_same m l A A' same s w le i lt =
    rw (bits_same 1 (A i) (A' i) w s (λ j _ h. same i j lt (omega arith)), bits_same 2 (A i) (A' i) w s (λ j _ h. same i j lt (omega arith)))

pub block_same : (m l : ℕ) (A A' : Matrix) → SameCells m l A A' → (s w : ℕ) → s + w ≤ l → block_steps m A s w ≡ block_steps m A' s w
unfolding block_steps
block_same m l A A' same s w le = rw (each_same (row_steps A s w) (row_steps A' s w) 0 m (λ i _ lt. row_same m l A A' same s w le i lt))

pub steps_same : (m l k : ℕ) (A A' : Matrix) → 0 < k → SameCells m l A A' → steps m l k A ≡ steps m l k A'
unfolding steps
steps_same m l k A A' pos same =
    each_same _ _ 0 (blocks l k) (λ b _ h. block_same m l A A' same (b * k) (block_width l k b) (width_within l k b pos h))

-- ---- running it

-- two states hold the same cells within a table of 2 ^ k rows and a product of m rows, of n columns each
pub record SameState (k m n : ℕ) (st st' : State) : Type 0 where
  pub table : SameCells (2 ^ k) n st.table st'.table
  pub product : SameCells m n st.product st'.product

pub put_cells : (r n : ℕ) (M M' : Matrix) (x : ℕ) (row row' : Row) → SameCells r n M M' → ((j : ℕ) → j < n → row j ≡ row' j)
    → SameCells r n (put M x row) (put M' x row')
put_cells r n M M' x row row' old new i j p q = go (ℕ_discrete i x)
  where
    go : Dec (i ≡ x) → put M x row i j ≡ put M' x row' i j
    go (yes e) = rw e (put_same M x row j ∙ new j q ∙ sym (put_same M' x row' j))
    go (no ne) = put_other M x row i j ne ∙ old i j p q ∙ sym (put_other M' x row' i j ne)

module _ (k m l n : ℕ) (B B' : Matrix) (sameB : SameCells l n B B') where
  pub apply_same : (p : Step) (st st' : State) → Fits m l k p → SameState k m n st st' → SameState k m n (apply B p st) (apply B' p st')
  unfolding apply
  apply_same (table_step s x) st st' (_, h, c, t) same = record {
    table = put_cells _ n _ _ x _ _ same.table (λ j q. rw (same.table (cleared x) j (omega arith) q, sameB (s + lowest_bit x) j t q));
    product = same.product;
  }
  apply_same (row_step i d x) st st' (lt, _, h) same = record {
    table = same.table;
    product = put_cells _ n _ _ i _ _ same.product (λ j q. rw (same.product i j lt q, same.table x j h q));
  }

  pub run_same : (ps : List Step) (st st' : State) → AllFit m l k ps → SameState k m n st st' → SameState k m n (run B ps st) (run B' ps st')
  unfolding run
  run_same [] st st' fs same = same
  run_same (p ∷ ps) st st' (f, fs) same = run_same ps (apply B p st) (apply B' p st') fs (apply_same p st st' f same)
