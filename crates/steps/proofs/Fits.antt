-- Theorem: every step of the list stays within the sizes. Assumes nothing.
use Prim.Native.Nat.{ℕ, zero, suc, ◌+◌, ◌-◌, ◌^◌, ◌≤◌, ◌<◌}
use mathlib.Core.List.{List, [], ◌∷◌, ◌++◌}
use native.Mathlib.Omega.{arith}
use lib.Pow.{pow_mono}
use lib.ListN.{take, drop}
use Rattle.cells.specs.Digit.{Matrix}
use Rattle.cells.specs.Counts.{bits_of}
use Rattle.steps.specs.Step.{Step, table_step, row_step, plus, minus, lowest_bit, cleared}
use Rattle.steps.specs.StepList.{unless0, many, each, table_steps, row_steps, block_steps, blocks, block_at, steps}
use Rattle.steps.proofs.LowestBit.{lowest_lt, cleared_lt}
use Rattle.steps.proofs.BlockBits.{bits_lt}
use Rattle.steps.proofs.Loops.{width_within, width_le}

-- What a step reads and writes: table rows below 2 ^ k, and row 0 only to read; rows of the product below m; rows of B below l.
abbrev pub Fits : ℕ → ℕ → ℕ → Step → Type 0
Fits m l k (table_step s x) = (0 < x) × (x < 2 ^ k) × (cleared x < x) × (s + lowest_bit x < l)
Fits m l k (row_step i d x) = (i < m) × (0 < x) × (x < 2 ^ k)

abbrev pub AllFit : ℕ → ℕ → ℕ → List Step → Type 0
AllFit m l k [] = Unit {0}
AllFit m l k (p ∷ ps) = Fits m l k p × AllFit m l k ps

module _ (m l k : ℕ) where
  pub fit_append : (ps qs : List Step) → AllFit m l k ps → AllFit m l k qs → AllFit m l k (ps ++ qs)
  fit_append [] qs f g = g
  fit_append (p ∷ ps) qs (f, fs) g = (f, fit_append ps qs fs g)

  -- any part of a list that fits, fits
  pub fit_take : (n : ℕ) (ps : List Step) → AllFit m l k ps → AllFit m l k (take n ps)
  fit_take zero ps f = tt
  fit_take (suc n) [] f = tt
  fit_take (suc n) (p ∷ ps) (f, fs) = (f, fit_take n ps fs)

  pub fit_drop : (n : ℕ) (ps : List Step) → AllFit m l k ps → AllFit m l k (drop n ps)
  fit_drop zero ps f = f
  fit_drop (suc n) [] f = tt
  fit_drop (suc n) (p ∷ ps) (f, fs) = fit_drop n ps fs

  pub fit_each : (f : ℕ → List Step) (s e : ℕ) → ((x : ℕ) → s ≤ x → x < e → AllFit m l k (f x)) → AllFit m l k (each s e f)
  unfolding each many
  fit_each f s e h = go (e - s) s (λ x a b. h x a (omega arith))
    where
      go : (n s : ℕ) → ((x : ℕ) → s ≤ x → x < s + n → AllFit m l k (f x)) → AllFit m l k (many s n f)
      go zero s h = tt
      go (suc n) s h = fit_append (f s) (many (suc s) n f) (h s (omega arith) (omega arith)) (go n (suc s) (λ x a b. h x (omega arith) (omega arith)))

-- a narrower table is part of a wider one
pub fits_wider : (m l w k : ℕ) → w ≤ k → (p : Step) → Fits m l w p → Fits m l k p
fits_wider m l w k le (table_step s x) (a, b, c, d) = (a, omega (arith, pow_mono le), c, d)
fits_wider m l w k le (row_step i d x) (a, b, c) = (a, b, omega (arith, pow_mono le))

pub fit_wider : (m l w k : ℕ) → w ≤ k → (ps : List Step) → AllFit m l w ps → AllFit m l k ps
fit_wider m l w k le [] f = tt
fit_wider m l w k le (p ∷ ps) (f, fs) = (fits_wider m l w k le p f, fit_wider m l w k le ps fs)

-- ---- the steps of a block of the columns s, .. s + w - 1, where w is its own width

pub table_step_fits : (m l s w x : ℕ) → s + w ≤ l → 0 < x → x < 2 ^ w → Fits m l w (table_step s x)
table_step_fits m l s w x le p h = (p, h, cleared_lt x p, omega (arith, lowest_lt w x p h))

pub row_step_fits : (m l w i d x : ℕ) → i < m → x < 2 ^ w → AllFit m l w (unless0 (row_step i d) x)
unfolding unless0
row_step_fits m l w i d zero lt h = tt
row_step_fits m l w i d (suc x) lt h = ((lt, omega arith, h), tt)

pub row_fits : (m l : ℕ) (A : Matrix) (s w i : ℕ) → i < m → AllFit m l w (row_steps A s w i)
unfolding row_steps
row_fits m l A s w i lt =
    let P = bits_of 1 (A i) s w in
    let N = bits_of 2 (A i) s w in
    fit_append m l w (unless0 (plus i) P) (unless0 (minus i) N) (row_step_fits m l w i 1 P lt (bits_lt 1 (A i) w s)) (row_step_fits m l w i 2 N lt (bits_lt 2 (A i) w s))

pub block_fits : (m l : ℕ) (A : Matrix) (s w : ℕ) → s + w ≤ l → AllFit m l w (block_steps m A s w)
unfolding block_steps table_steps
block_fits m l A s w le =
    fit_append m l w (table_steps s w) (each 0 m (row_steps A s w))
    (fit_each m l w (λ x. table_step s x ∷ []) 1 (2 ^ w) (λ x p h. (table_step_fits m l s w x le p h, tt)))
    (fit_each m l w (row_steps A s w) 0 m (λ i _ lt. row_fits m l A s w i lt))

pub steps_fit : (m l k : ℕ) (A : Matrix) → 0 < k → AllFit m l k (steps m l k A)
unfolding steps
steps_fit m l k A pos =
    fit_each m l k (block_at m l k A) 0 (blocks l k)
    (λ b _ h. fit_wider m l _ k (width_le l k b) (block_at m l k A b) (block_fits m l A _ _ (width_within l k b pos h)))
