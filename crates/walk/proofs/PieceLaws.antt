-- The pieces of the list that the code carries out, and how they join. Assumes nothing.
use mathlib.Core.Path.{◌≡◌, refl, sym, ap, ap₂, subst, ◌∙◌}
use mathlib.Core.List.{List, [], ◌∷◌, ◌++◌, append-nil}
use Prim.Native.Nat.{ℕ, zero, suc, ◌+◌, ◌-◌, ◌*◌, ◌^◌, ◌≤◌, ◌<◌, min}
use native.Mathlib.Numerals.{add-one}
use native.Mathlib.Omega.{arith}
use lib.Pow.{pow_pos, pow_mono}
use lib.ListN.{length, drop_of_length-le}
use Rattle.cells.specs.Bit.{bit}
use Rattle.cells.specs.Digit.{Matrix, combine}
use Rattle.cells.specs.Lowest.{Peels}
use Rattle.buffers.specs.Buffer.{planes, Legal, Words}
use Rattle.rows.specs.Row.{of2, Made}
use Rattle.steps.specs.Step.{Step, table_step, row_step, lowest_bit, cleared}
use Rattle.steps.specs.StepList.{unless0, each, table_steps, row_steps, block_steps, blocks, block_width, block_at, steps}
use Rattle.steps.specs.Count.{block_count, count_at}
use Rattle.cells.specs.Counts.{sum}
use Rattle.steps.specs.Turn.{due}
use Rattle.steps.proofs.Fits.{AllFit, fit_take, fit_drop, fit_each, table_step_fits, row_fits, block_fits, fit_wider}
use Rattle.steps.proofs.Counts.{length_block}
use Rattle.steps.proofs.Loops.{each_split, each_next, each_end, length_each, width_within, width_pos, width_le}
use Rattle.steps.proofs.LowestBit.{lowest_only, cleared_only}
use Rattle.cells.proofs.SumLaws.{sum_more, sum_ext}
use Rattle.walk.specs.declared.Left.{Left}
use Rattle.walk.specs.Spent.{Spent}
use Rattle.walk.specs.Ran.{Ran}
use Rattle.walk.proofs.DueLaws.{due_nothing, due_nil, due_skipped, due_made, due_more, spent_none, due_after, spent_append, table_length, table_due}
use Rattle.walk.proofs.RanLaws.{ran_none, ran_more, ran_row_step}

-- ---- the lowest bit of a table row's number

pub record Low (s l x at rest : ℕ) : Type 0 where
  pub place : at ≡ lowest_bit x
  pub without : rest ≡ cleared x
  pub less : rest < x
  pub row : s + at < l

pub low_facts : (s l w x at rest : ℕ) → s + w ≤ l → 0 < x → x < 2 ^ w → Peels 64 x at rest → Low s l x at rest
unfolding bit
low_facts s l w x at rest room pos h K =
    let place : at ≡ lowest_bit x = lowest_only x at pos K.set K.below in
    record { place = place; without = cleared_only x at rest pos place K.split; less = K.less; row = rw place (table_step_fits 0 l s w x room pos h).3 }

-- ---- any part of a list that fits, fits

pub fit_due : (m l k z g : ℕ) (ps : List Step) → AllFit m l k ps → AllFit m l k (due z g ps)
unfolding due
fit_due m l k z g ps f = fit_take m l k g _ (fit_drop m l k z ps f)

-- one turn more of a loop
pub each_last : (f : ℕ → List Step) (s i : ℕ) → s ≤ i → each s (i + 1) f ≡ each s i f ++ f i
each_last f s i h =
    let e : i + 1 ≡ suc i = add-one i in
    each_split f s i (i + 1) h (omega arith)
    ∙ ap (λ (l : List Step). each s i f ++ l) (each_next f i (i + 1) (omega arith) ∙ ap (λ (l : List Step). f i ++ l) (rw e (each_end f (suc i))) ∙ append-nil (f i))

-- ---- a step that may be none

unless_some : (step : ℕ → Step) (x : ℕ) → 0 < x → unless0 step x ≡ step x ∷ []
unfolding unless0
unless_some step zero h = absurd (omega arith)
unless_some step (suc x) h = refl

module _ (k m n : ℕ) (B : Matrix) (step : ℕ → Step) (x : ℕ) (t p p' : List ℕ) where
  pub step_none : x ≡ 0 → p ≡ p' → Legal (2 ^ k) n t → Words t → Legal m n p → Words p → Ran k m n B (unless0 step x) t p t p'
  unfolding unless0
  step_none z same L fits K fits' = rw (z, ← same) (ran_none k m n B t p L fits K fits')

  pub step_made : 0 < x → Ran k m n B (step x ∷ []) t p t p' → Ran k m n B (unless0 step x) t p t p'
  step_made h R = rw (unless_some step x h) R

-- the row step of digit d
module _ (k m n q : ℕ) (row : q ≡ planes n) {t p p' : List ℕ} (L : Legal (2 ^ k) n t) (fits : Words t) (K : Legal m n p) (fits' : Words p) where
  pub row_step_made : (i d x : ℕ) → i < m → 0 < x → x < 2 ^ k → Made (of2 (combine d) q p (i * (2 * q)) t (x * (2 * q))) (i * (2 * q)) q q p p' → (B : Matrix) → Ran k m n B (unless0 (row_step i d) x) t p t p'
  row_step_made i d x h pos hx M B = step_made k m n B (row_step i d) x t p p' pos (ran_row_step k m n q row t p L fits K fits' B i d x p' h hx M)

module _ (k m n : ℕ) (step : ℕ → Step) (x : ℕ) (a b : Left) (t p p' : List ℕ) where
  abbrev Carried : Type 0
  Carried = Spent a (length (unless0 step x)) b × ((B : Matrix) → Ran k m n B (due a.skip a.budget (unless0 step x)) t p t p')

  -- it is none, or all of it is to be skipped, or the budget is spent
  idle : p ≡ p' → Legal (2 ^ k) n t → Words t → Legal m n p → Words p → Spent a (length (unless0 step x)) b → due a.skip a.budget (unless0 step x) ≡ [] → Carried
  idle same L fits K fits' S e = (S, λ B. rw (e, ← same) (ran_none k m n B t p L fits K fits'))

  pub piece_none : x ≡ 0 → b ≡ a → p ≡ p' → Legal (2 ^ k) n t → Words t → Legal m n p → Words p → Carried
  unfolding unless0
  piece_none z e same L fits K fits' = idle same L fits K fits' (rw (z, e) (spent_none a)) (rw z (due_nil a.skip a.budget))

  pub piece_skipped : 0 < x → 0 < a.skip → b.skip ≡ a.skip - 1 → b.budget ≡ a.budget → p ≡ p' → Legal (2 ^ k) n t → Words t → Legal m n p → Words p → Carried
  piece_skipped hx hz ez eg same L fits K fits' =
      let e : a.skip ≡ suc (a.skip - 1) = omega arith in
      idle same L fits K fits' (rw (unless_some step x hx) (record { skip = ez; budget = eg ∙ whole a.budget a.skip hz }))
      (ap₂ (λ (z : ℕ) (l : List Step). due z a.budget l) e (unless_some step x hx) ∙ due_skipped (a.skip - 1) a.budget (step x))
    where
      whole : (g z : ℕ) → 0 < z → g ≡ g - (1 - z)
      whole g z h = omega arith

  pub piece_spent : 0 < x → a.skip ≡ 0 → a.budget ≡ 0 → b ≡ a → p ≡ p' → Legal (2 ^ k) n t → Words t → Legal m n p → Words p → Carried
  piece_spent hx ez eg e same L fits K fits' =
      idle same L fits K fits' (rw (unless_some step x hx, e) (record { skip = rw ez; budget = rw (eg, ez) }))
      (ap (λ (g : ℕ). due a.skip g (unless0 step x)) eg ∙ due_nothing a.skip (unless0 step x))

  pub piece_made : 0 < x → a.skip ≡ 0 → 0 < a.budget → b.skip ≡ 0 → b.budget ≡ a.budget - 1 → ((B : Matrix) → Ran k m n B (unless0 step x) t p t p') → Carried
  piece_made hx ez hg bz bg R =
      let e : a.budget ≡ suc (a.budget - 1) = omega arith in (
        rw (unless_some step x hx) (record { skip = bz ∙ rw ez; budget = bg ∙ rw ez }),
        λ B. rw (ap₂ (λ (z g : ℕ). due z g (unless0 step x)) ez e ∙ ap (due 0 (suc (a.budget - 1))) (unless_some step x hx) ∙ due_made (a.budget - 1) (step x) ∙ sym (unless_some step x hx)) (R B),
      )

-- ---- two pieces, one after the other

module _ (k m n l : ℕ) (B : Matrix) (ps qs : List Step) (a b : Left) (t p t' p' t'' p'' : List ℕ) where
  pub joined : AllFit m l k qs → Spent a (length ps) b → Ran k m n B (due a.skip a.budget ps) t p t' p' → Ran k m n B (due b.skip b.budget qs) t' p' t'' p''
      → Ran k m n B (due a.skip a.budget (ps ++ qs)) t p t'' p''
  joined fit S R T =
      subst (λ (ds : List Step). Ran k m n B ds t p t'' p'') (sym (due_after ps qs a b S))
      (ran_more k m n B l (due a.skip a.budget ps) (due b.skip b.budget qs) t p t' p' t'' p'' (fit_due m l k b.skip b.budget qs fit) R T)

-- ---- the table rows of a block

pub from_to : (s w z g f t : ℕ) → f ≡ min z (2 ^ w - 1) + 1 → t ≡ f + min g (2 ^ w - 1 - min z (2 ^ w - 1)) → due z g (table_steps s w) ≡ each f t (λ x. table_step s x ∷ [])
unfolding table_steps
from_to s w z g f t ef et = table_due s (2 ^ w) z g f t (pow_pos w) ef et

pub table_spent : (s w : ℕ) (a b : Left) → b.skip ≡ a.skip - min a.skip (2 ^ w - 1) → b.budget ≡ a.budget - min a.budget (2 ^ w - 1 - min a.skip (2 ^ w - 1)) → Spent a (length (table_steps s w)) b
table_spent s w a b ez eg = rw (table_length s w) (record { skip = ez ∙ skips a.skip (2 ^ w - 1); budget = eg ∙ budgets a.budget a.skip (2 ^ w - 1) })
  where
    skips : (z e : ℕ) → z - min z e ≡ z - e
    skips z e = omega arith

    budgets : (g z e : ℕ) → g - min g (e - min z e) ≡ g - (e - z)
    budgets g z e = omega arith

-- ---- the steps from a place found by counting

pub from_place : (m l k : ℕ) (A : Matrix) (b before done made : ℕ) → b ≤ blocks l k → before ≡ sum 0 b (count_at m l k A) → before ≤ done
    → due done made (steps m l k A) ≡ due (done - before) made (each b (blocks l k) (block_at m l k A))
unfolding steps due
from_place m l k A b before done made hb e h =
    let long : length (each 0 b (block_at m l k A)) ≡ before =
    length_each (block_at m l k A) 0 b ∙ subtracted ∙ sum_ext _ _ b 0 (λ c _ _. length_block m A (c * k) (block_width l k c)) ∙ sym e in
    let over : made - (before - done) ≡ made = omega arith in
    ap (due done made) (each_split (block_at m l k A) 0 b (blocks l k) (omega arith) hb) ∙ due_more (each 0 b (block_at m l k A)) (each b (blocks l k) (block_at m l k A)) done made
    ∙ rw (long, over) (ap (λ (ds : List Step). ds ++ due (done - before) made (each b (blocks l k) (block_at m l k A))) (skipped long))
  where
    subtracted : sum 0 (b - 0) (λ c. length (block_at m l k A c)) ≡ sum 0 b (λ c. length (block_at m l k A c))
    subtracted = let z : b - 0 ≡ b = omega arith in rw z

    skipped : length (each 0 b (block_at m l k A)) ≡ before → due done made (each 0 b (block_at m l k A)) ≡ []
    skipped long = rw (drop_of_length-le (each 0 b (block_at m l k A)) {i = done} (omega arith)) (due_nil 0 made)

-- ---- a block: its table rows, and then the rows of A

module _ (k m n l : ℕ) (A B : Matrix) (s w : ℕ) (a mid b : Left) (top skipped made f t : ℕ) (room : s + w ≤ l) (narrow : w ≤ k) (et : top ≡ 2 ^ w - 1) (es : skipped ≡ min a.skip top) (em : made ≡ min a.budget (top - skipped))
    (ef : f ≡ skipped + 1) (el : t ≡ f + made) (ez : mid.skip ≡ a.skip - skipped) (eg : mid.budget ≡ a.budget - made) where
  top_skipped : skipped ≡ min a.skip (2 ^ w - 1)
  top_skipped = es ∙ ap (λ (e : ℕ). min a.skip e) et

  top_made : made ≡ min a.budget (2 ^ w - 1 - min a.skip (2 ^ w - 1))
  top_made = em ∙ ap₂ (λ (e z : ℕ). min a.budget (e - z)) et top_skipped

  table_left_lem : Spent a (length (table_steps s w)) mid
  table_left_lem = table_spent s w a mid (ez ∙ ap (λ (x : ℕ). a.skip - x) top_skipped) (eg ∙ ap (λ (x : ℕ). a.budget - x) top_made)

  abbrev rest : List Step
  rest = each 0 m (row_steps A s w)

  pub block_spent : Spent mid (length rest) b → Spent a (length (block_steps m A s w)) b
  unfolding block_steps
  block_spent T = spent_append (table_steps s w) rest a mid b table_left_lem T

  pub block_ran : (t₀ p t₁ p₁ : List ℕ) → Ran k m n B (each f t (λ x. table_step s x ∷ [])) t₀ p t₁ p → Ran k m n B (due mid.skip mid.budget rest) t₁ p t₁ p₁
      → Ran k m n B (due a.skip a.budget (block_steps m A s w)) t₀ p t₁ p₁
  unfolding block_steps
  block_ran t₀ p t₁ p₁ R T =
      joined k m n l B (table_steps s w) rest a mid t₀ p t₁ p t₁ p₁ (fit_each m l k (row_steps A s w) 0 m (λ i _ h. fit_wider m l w k narrow (row_steps A s w i) (row_fits m l A s w i h))) table_left_lem
      (subst (λ (ps : List Step). Ran k m n B ps t₀ p t₁ p)
      (sym (from_to s w a.skip a.budget f t (ef ∙ ap (λ (x : ℕ). x + 1) top_skipped) (el ∙ ap (λ (x : ℕ). f + x) top_made))) R) T

-- the same with nothing left out
pub block_whole : (k m n l : ℕ) (A B : Matrix) (s w top : ℕ) → w ≤ k → top ≡ 2 ^ w → (t p t₁ p₁ : List ℕ) → Ran k m n B (each 1 top (λ x. table_step s x ∷ [])) t p t₁ p → Ran k m n B (each 0 m (row_steps A s w)) t₁ p t₁ p₁
    → Ran k m n B (block_steps m A s w) t p t₁ p₁
unfolding block_steps table_steps
block_whole k m n l A B s w top narrow e t p t₁ p₁ R T =
    ran_more k m n B l (each 1 (2 ^ w) (λ x. table_step s x ∷ [])) (each 0 m (row_steps A s w)) t p t₁ p t₁ p₁ (fit_each m l k (row_steps A s w) 0 m (λ i _ h. fit_wider m l w k narrow (row_steps A s w i) (row_fits m l A s w i h)))
    (subst (λ (z : ℕ). Ran k m n B (each 1 z (λ x. table_step s x ∷ [])) t p t₁ p) e R) T

-- the blocks of the list fit
pub blocks_fit : (m l k c : ℕ) (A : Matrix) → 0 < k → c < blocks l k → AllFit m l k (block_at m l k A c)
blocks_fit m l k c A pos h = fit_wider m l (block_width l k c) k (width_le l k c) (block_steps m A (c * k) (block_width l k c)) (block_fits m l A (c * k) (block_width l k c) (width_within l k c pos h))

-- ---- how many steps blocks have

-- the steps of the blocks from c up to d - 1
pub each_counts : (m l k c d : ℕ) (A : Matrix) → c ≤ d → sum 0 c (count_at m l k A) + length (each c d (block_at m l k A)) ≡ sum 0 d (count_at m l k A)
each_counts m l k c d A h =
    let e : c + (d - c) ≡ d = omega arith in
    let long : length (each c d (block_at m l k A)) ≡ sum c (d - c) (count_at m l k A) =
    length_each (block_at m l k A) c d ∙ sum_ext _ _ (d - c) c (λ b _ _. length_block m A (b * k) (block_width l k b)) in
    ap (λ (n : ℕ). sum 0 c (count_at m l k A) + n) long ∙ sym (sum_more (count_at m l k A) c (d - c)) ∙ ap (λ (n : ℕ). sum 0 n (count_at m l k A)) e

-- a block has at least one table step
pub count_some : (m l k b : ℕ) (A : Matrix) → 0 < k → b < blocks l k → 0 < count_at m l k A b
unfolding block_count
count_some m l k b A pos h =
    let two : 2 ^ 1 ≤ 2 ^ block_width l k b = pow_mono (width_pos l k b pos h) in
    omega arith
