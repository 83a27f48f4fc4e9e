-- Theorem: after all steps from an opening, the product is the schoolbook one, at every width. Assumes nothing.
use Prim.Native.Nat.{ℕ, zero, suc, ◌+◌, ◌*◌, ◌/◌, ◌%◌, ◌^◌, ◌≤◌, ◌<◌, min}
use mathlib.Core.Path.{◌≡◌, refl, sym, ap, ◌∙◌}
use mathlib.Core.Logic.{◌≢◌, ◌⊎◌, inl, inr, ⊎_elim}
use mathlib.Core.List.{[], ◌∷◌}
use native.Mathlib.Omega.{arith}
use native.Mathlib.Nat.{le_refl, le_of_suc-le-suc, eq-or-lt_of_le, add-mul-mod_self_right}
use lib.Pow.{pow_pos}
use Rattle.cells.specs.Digit.{Matrix, combine}
use Rattle.cells.specs.Counts.{sum, bits_of}
use Rattle.steps.specs.Matrix.{Digits, schoolbook}
use Rattle.steps.specs.Step.{table_step, row_step, plus, minus, State, cleared, apply, run, opening}
use Rattle.steps.specs.StepList.{unless0, table_steps, row_steps, block_steps, blocks, block_width, block_at, steps}
use Rattle.cells.proofs.SumLaws.{sum_more}
use Rattle.steps.proofs.LowestBit.{cleared_lt}
use Rattle.steps.proofs.BlockBits.{bits_lt, picked, picked_zero, picked_lowest, ones_and_twos}
use Rattle.steps.proofs.Running.{put_same, put_other, run_append, each_holds}
use Rattle.steps.proofs.Loops.{blocks_within, blocks_cover}

-- ---- the table

-- the table's rows below n are the sums of B's rows from s on that their bits pick
abbrev pub TableMade : Matrix → ℕ → ℕ → ℕ → State → Type 0
TableMade B s w n st = (x : ℕ) → x < n → (j : ℕ) → st.table x j ≡ picked x (λ t. B t j) s w % 3

abbrev pub ProductKept : Matrix → State → Type 0
ProductKept R st = (i j : ℕ) → st.product i j ≡ R i j

table_step_right : (B : Matrix) (s w n : ℕ) → 0 < n → n < 2 ^ w → (st : State) → TableMade B s w n st → TableMade B s w (suc n) (apply B (table_step s n) st)
unfolding apply combine
table_step_right B s w n pos h st tab x lt j = go (eq-or-lt_of_le (le_of_suc-le-suc lt))
  where
    go : (x ≡ n) ⊎ (x < n) → (apply B (table_step s n) st).table x j ≡ picked x (λ t. B t j) s w % 3
    go (inr q) = rw (put_other _ _ _ _ _ (λ (e : x ≡ n). omega arith)) (tab x q j)
    go (inl e) = rw (e, put_same) (omega (arith, picked_lowest (λ t. B t j) n pos w s h, tab (cleared n) (cleared_lt n pos) j))

-- where table row 0 is zero, the table steps of a block make its rows below 2 ^ w, and leave the product
pub table_right : (B R : Matrix) (s w : ℕ) (st : State) → ((j : ℕ) → st.table 0 j ≡ 0) → ProductKept R st
    → let r = run B (table_steps s w) st in TableMade B s w (2 ^ w) r × ProductKept R r
unfolding run apply table_steps
table_right B R s w st z kept =
    let r = each_holds B (λ x. table_step s x ∷ []) (λ n st. (0 < n) × TableMade B s w n st × ProductKept R st) (2 ^ w)
    (λ n h st (pos, tab, kept). (omega arith, table_step_right B s w n pos h st tab, kept)) 1 (pow_pos w) st (omega arith, first, kept) in
    (r.1, r.2)
  where
    first : TableMade B s w 1 st
    first x lt j = let e : x ≡ 0 = omega arith in rw (e, z, picked_zero)

-- ---- the rows

-- c times table row x is added to row i of the product, and nothing else changes
record Added (c i x : ℕ) (st st' : State) : Type 0 where
  table : st'.table ≡ st.table
  here : (j : ℕ) → st'.product i j ≡ (st.product i j + c * st.table x j) % 3
  there : (i' : ℕ) → i' ≢ i → (j : ℕ) → st'.product i' j ≡ st.product i' j

-- row i of the product is made of digits, and row 0 of the table is 0
record Ready (i : ℕ) (st : State) : Type 0 where
  digits : (j : ℕ) → st.product i j < 3
  none : (j : ℕ) → st.table 0 j ≡ 0

-- where P or N is 0 there is no step, and nothing would be added
nothing : (c i : ℕ) (st : State) → Ready i st → Added c i 0 st st
nothing c i st r = record { table = refl; here = λ j. rw (r.none j) (omega (arith, r.digits j)); there = λ i' n j. refl }

row_step_right : (B : Matrix) (i d x : ℕ) (st : State) → Ready i st → Added d i x st (run B (unless0 (row_step i d) x) st)
unfolding run apply unless0 combine
row_step_right B i d zero st r = nothing d i st r
row_step_right B i d (suc x) st r = record { table = refl; here = λ j. put_same _ _ _ _; there = λ i' n j. put_other _ _ _ _ _ n }

-- two numbers that differ by a multiple of 3 have one digit
congruent : (x y q : ℕ) → y ≡ x + q * 3 → x % 3 ≡ y % 3
congruent x y q e = rw (e, add-mul-mod_self_right)

mod3 : (a p n : ℕ) → ((a % 3 + 1 * (p % 3)) % 3 + 2 * (n % 3)) % 3 ≡ (a + (p + 2 * n)) % 3
mod3 a p n = congruent _ _ ((a % 3 + 1 * (p % 3)) / 3 + a / 3 + p / 3 + 2 * (n / 3)) (omega arith)

-- row i of the product is that of A's first n columns and B's first n rows
abbrev pub Through : Matrix → Matrix → ℕ → ℕ → State → Type 0
Through A B n i st = (j : ℕ) → st.product i j ≡ schoolbook n A B i j

module _ (A B : Matrix) (s w i : ℕ) (digits : (t : ℕ) → t < s + w → A i t < 3) (st : State) (tab : TableMade B s w (2 ^ w) st) (so_far : Through A B s i st) where
  row_right : let r = run B (row_steps A s w i) st in TableMade B s w (2 ^ w) r × Through A B (s + w) i r × ((i' : ℕ) → i' ≢ i → (j : ℕ) → r.product i' j ≡ st.product i' j)
  unfolding row_steps schoolbook
  row_right =
      rw run_append (
        (λ x lt j. ap (λ (T : Matrix). T x j) (minused.table ∙ added.table) ∙ tab x lt j),
        (λ j.
            minused.here j
            ∙ rw (added.here j, added.table, tab P (bits_lt 1 (A i) w s) j, tab N (bits_lt 2 (A i) w s) j, so_far j)
            (mod3 _ _ _ ∙ rw (ones_and_twos (A i) (λ t. B t j) w s digits, ← (sum_more (λ t. A i t * B t j) s w)))),
        (λ i' n j. minused.there i' n j ∙ added.there i' n j),
      )
    where
      P : ℕ
      P = bits_of 1 (A i) s w

      N : ℕ
      N = bits_of 2 (A i) s w

      zeros : (j : ℕ) → st.table 0 j ≡ 0
      zeros j = tab 0 (pow_pos w) j ∙ rw picked_zero

      st₁ : State
      st₁ = run B (unless0 (plus i) P) st

      added : Added 1 i P st st₁
      added = row_step_right B i 1 P st (record { digits = λ j. omega (arith, so_far j); none = zeros })

      minused : Added 2 i N st₁ (run B (unless0 (minus i) N) st₁)
      minused = row_step_right B i 2 N st₁ (record { digits = λ j. omega (arith, added.here j); none = λ j. rw added.table (zeros j) })

-- ---- a block, and all blocks

-- every row of the product stands at n columns, and row 0 of the table is 0
abbrev pub Stands : ℕ → Matrix → Matrix → ℕ → State → Type 0
Stands m A B n st = ((i : ℕ) → i < m → Through A B n i st) × ((j : ℕ) → st.table 0 j ≡ 0)

module _ (m l : ℕ) (A B : Matrix) (digits : Digits m l A) where
  -- the rows below n stand at s + w columns, and the others at s
  abbrev Half : ℕ → ℕ → ℕ → State → Type 0
  Half s w n st = TableMade B s w (2 ^ w) st × ((i : ℕ) → i < n → Through A B (s + w) i st) × ((i : ℕ) → n ≤ i → i < m → Through A B s i st)

  rows_right : (s w : ℕ) → s + w ≤ l → (n : ℕ) → n < m → (st : State) → Half s w n st → Half s w (suc n) (run B (row_steps A s w n) st)
  rows_right s w le n lt st (tab, done, rest) =
      let r = row_right A B s w n (λ t h. digits n t lt (omega arith)) st tab (rest n (le_refl n) lt) in (
        r.0,
        (λ i h j. ⊎_elim (λ (e : i ≡ n). rw e (r.1 j)) (λ (q : i < n). r.2 i (omega arith) j ∙ done i q j) (eq-or-lt_of_le (le_of_suc-le-suc h))),
        (λ i h k j. r.2 i (omega arith) j ∙ rest i (omega arith) k j),
      )

  pub block_right : (s w : ℕ) → s + w ≤ l → (st : State) → Stands m A B s st → Stands m A B (s + w) (run B (block_steps m A s w) st)
  unfolding block_steps
  block_right s w le st (done, z) =
      let f = table_right B st.product s w st z (λ i j. refl) in
      let r = each_holds B (row_steps A s w) (Half s w) m (rows_right s w le) 0 (omega arith) _
      (f.0, (λ i h. absurd (omega arith)), (λ i _ h j. f.1 i j ∙ done i h j)) in
      rw run_append (r.1, λ j. r.0 0 (pow_pos w) j ∙ rw picked_zero)

  pub steps_right : (k : ℕ) → 0 < k → (i : ℕ) → i < m → (j : ℕ) → (run B (steps m l k A) opening).product i j ≡ schoolbook l A B i j
  unfolding steps schoolbook block_width opening sum
  steps_right k pos i lt j =
      let all : min (blocks l k * k) l ≡ l = omega (arith, blocks_cover l k pos) in
      rw all at ((each_holds B (block_at m l k A) (λ b. Stands m A B (min (b * k) l)) (blocks l k) step 0 (omega arith) opening first).0 i lt j)
    where
      step : (b : ℕ) → b < blocks l k → (st : State) → Stands m A B (min (b * k) l) st → Stands m A B (min (suc b * k) l) (run B (block_at m l k A b) st)
      step b h st p =
          let within : b * k < l = blocks_within l k b pos h in
          let e₁ : min (b * k) l ≡ b * k = omega arith in
          let e₂ : min (suc b * k) l ≡ b * k + block_width l k b = omega arith in
          rw e₂ (block_right (b * k) (block_width l k b) (omega arith) st (rw e₁ at p))

      first : Stands m A B (min (0 * k) l) opening
      first = let e : min (0 * k) l ≡ 0 = omega arith in rw e ((λ i h j. refl), (λ j. refl))

  -- hence two widths give one product
  pub widths_agree : (k k' : ℕ) → 0 < k → 0 < k' → (i : ℕ) → i < m → (j : ℕ)
      → (run B (steps m l k A) opening).product i j ≡ (run B (steps m l k' A) opening).product i j
  widths_agree k k' p p' i lt j = steps_right k p i lt j ∙ sym (steps_right k' p' i lt j)
