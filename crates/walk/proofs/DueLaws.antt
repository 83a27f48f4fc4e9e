-- The steps that are due of a list, piece by piece. Assumes nothing.
use mathlib.Core.Path.{◌≡◌, refl, sym, ap, ap₂, subst, ◌∙◌}
use mathlib.Core.List.{List, [], ◌∷◌, ◌++◌}
use Prim.Native.Nat.{ℕ, zero, suc, ◌+◌, ◌-◌, ◌^◌, ◌≤◌, ◌<◌, min}
use native.Mathlib.Decide.{dec_lt}
use native.Mathlib.Omega.{arith}
use lib.ListN.{length, take, drop, length-append, length-drop, drop_of_length-le}
use lib.Seq.{take_all, take-append_seam}
use Rattle.steps.specs.Step.{Step, table_step}
use Rattle.steps.specs.StepList.{each, table_steps}
use Rattle.steps.specs.Turn.{due}
use Rattle.steps.proofs.Loops.{each_split, each_end, length_each}
use Rattle.cells.proofs.SumLaws.{sum_same}
use Rattle.walk.specs.declared.Left.{Left}
use Rattle.walk.specs.Spent.{Spent}

pub due_nothing : (z : ℕ) (ps : List Step) → due z 0 ps ≡ []
unfolding due
due_nothing z ps = refl

pub due_nil : (z g : ℕ) → due z g [] ≡ []
unfolding due
due_nil zero zero = refl
due_nil zero (suc g) = refl
due_nil (suc z) zero = refl
due_nil (suc z) (suc g) = refl

pub due_skipped : (z g : ℕ) (p : Step) → due (suc z) g (p ∷ []) ≡ []
unfolding due
due_skipped zero zero p = refl
due_skipped zero (suc g) p = refl
due_skipped (suc z) zero p = refl
due_skipped (suc z) (suc g) p = refl

pub due_made : (g : ℕ) (p : Step) → due 0 (suc g) (p ∷ []) ≡ p ∷ []
unfolding due
due_made zero p = refl
due_made (suc g) p = refl

-- what is due of two lists
pub due_more : (ps qs : List Step) (z g : ℕ) → due z g (ps ++ qs) ≡ due z g ps ++ due (z - length ps) (g - (length ps - z)) qs
unfolding due
due_more [] qs z g =
    let a : z - 0 ≡ z = omega arith in
    let b : g - (0 - z) ≡ g = omega arith in
    rw (a, b) (sym (ap (λ (l : List Step). l ++ take g (drop z qs)) (due_nil z g)))
due_more (p ∷ ps) qs zero zero = let e : 0 - (suc (length ps) - 0) ≡ 0 = omega arith in rw e
due_more (p ∷ ps) qs zero (suc g) =
    let a : 0 - suc (length ps) ≡ 0 - length ps = omega arith in
    let b : suc g - (suc (length ps) - 0) ≡ g - (length ps - 0) = omega arith in
    rw (a, b) (ap (λ (l : List Step). p ∷ l) (due_more ps qs zero g))
due_more (p ∷ ps) qs (suc z) g =
    let a : suc z - suc (length ps) ≡ z - length ps = omega arith in
    let b : g - (suc (length ps) - suc z) ≡ g - (length ps - z) = omega arith in
    rw (a, b) (due_more ps qs z g)

-- a budget beyond the list's end brings nothing more
pub due_least : (z g : ℕ) (ps : List Step) → due z g ps ≡ due z (min g (length ps - z)) ps
unfolding due
due_least z g ps = go (dec_lt g (length ps - z))
  where
    go : Dec (g < length ps - z) → take g (drop z ps) ≡ take (min g (length ps - z)) (drop z ps)
    go (yes h) = let e : min g (length ps - z) ≡ g = omega arith in rw e
    go (no h) = take_all g (drop z ps) (omega (arith, length-drop z ps)) ∙ sym (take_all (min g (length ps - z)) (drop z ps) (omega (arith, length-drop z ps)))

-- ---- what is left after a list

pub spent_none : (left : Left) → Spent left 0 left
spent_none left = record { skip = omega arith; budget = omega arith }

-- what n steps and then m more take of the budget, where z of them are skipped
less_less : (g n m z : ℕ) → g - (n - z) - (m - (z - n)) ≡ g - (n + m - z)
less_less g n m z = go (dec_lt z n)
  where
    behind : (d : ℕ) → g - d - m ≡ g - (d + m)
    behind d = omega arith

    go : Dec (z < n) → g - (n - z) - (m - (z - n)) ≡ g - (n + m - z)
    go (yes h) =
        let a : m - (z - n) ≡ m = omega arith in
        let b : n - z + m ≡ n + m - z = omega arith in
        rw (a, ← b) (behind (n - z))
    go (no h) =
        let a : g - (n - z) ≡ g = omega arith in
        let b : m - (z - n) ≡ n + m - z = omega arith in
        rw (a, b)

pub spent_more : (a b c : Left) (n m : ℕ) → Spent a n b → Spent b m c → Spent a (n + m) c
spent_more a b c n m S T = record {
  skip = T.skip ∙ ap (λ (z : ℕ). z - m) S.skip ∙ skips a.skip;
  budget = T.budget ∙ ap₂ (λ (g z : ℕ). g - (m - z)) S.budget S.skip ∙ less_less a.budget n m a.skip;
}
  where
    skips : (z : ℕ) → z - n - m ≡ z - (n + m)
    skips z = omega arith

pub due_after : (ps qs : List Step) (a b : Left) → Spent a (length ps) b → due a.skip a.budget (ps ++ qs) ≡ due a.skip a.budget ps ++ due b.skip b.budget qs
due_after ps qs a b S = due_more ps qs a.skip a.budget ∙ rw (S.skip, S.budget)

pub spent_append : (ps qs : List Step) (a b c : Left) → Spent a (length ps) b → Spent b (length qs) c → Spent a (length (ps ++ qs)) c
spent_append ps qs a b c S T = rw (length-append ps qs) (spent_more a b c (length ps) (length qs) S T)

-- ---- the table rows of a block

singles : (s a b : ℕ) → length (each a b (λ x. table_step s x ∷ [])) ≡ b - a
singles s a b = length_each (λ x. table_step s x ∷ []) a b ∙ omega (arith, sum_same 1 (b - a) a)

pub table_length : (s w : ℕ) → length (table_steps s w) ≡ 2 ^ w - 1
unfolding table_steps
table_length s w = singles s 1 (2 ^ w)

module _ (s : ℕ) where
  abbrev one : ℕ → List Step
  one x = table_step s x ∷ []

  -- all of them were made before
  past : (e z g : ℕ) → e ≤ z + 1 → due z g (each 1 e one) ≡ []
  unfolding due
  past e z g h = rw (drop_of_length-le (each 1 e one) {i = z} (omega (arith, singles s 1 e))) (due_nil 0 g)

  -- the steps after those that are to be skipped
  skip_to : (e z g : ℕ) → z + 1 ≤ e → due z g (each 1 e one) ≡ due 0 g (each (z + 1) e one)
  skip_to e z g h =
      let a : z + 1 - 1 ≡ z = omega arith in
      let b : z - z ≡ 0 = omega arith in
      let c : g - 0 ≡ g = omega arith in
      ap (due z g) (each_split one 1 (z + 1) e (omega arith) h) ∙ due_more (each 1 (z + 1) one) (each (z + 1) e one) z g
      ∙ rw (singles s 1 (z + 1), a, b, c) (ap (λ (l : List Step). l ++ due 0 g (each (z + 1) e one)) (past (z + 1) z g (omega arith)))

  -- as many of them as the budget allows
  spend : (f e g : ℕ) → f + g ≤ e → due 0 g (each f e one) ≡ each f (f + g) one
  unfolding due
  spend f e g h =
      let a : length (each f (f + g) one) ≡ g = omega (arith, singles s f (f + g)) in
      ap (take g) (each_split one f (f + g) e (omega arith) h)
      ∙ subst (λ (n : ℕ). take n (each f (f + g) one ++ each (f + g) e one) ≡ each f (f + g) one) a (take-append_seam (each f (f + g) one) (each (f + g) e one))

  afford : (f e g : ℕ) → e ≤ f + g → due 0 g (each f e one) ≡ each f e one
  unfolding due
  afford f e g h = take_all g (each f e one) (omega (arith, singles s f e))

  pub table_due : (e z g f t : ℕ) → 0 < e → f ≡ min z (e - 1) + 1 → t ≡ f + min g (e - 1 - min z (e - 1)) → due z g (each 1 e one) ≡ each f t one
  table_due e z g f t pos ef et = go (dec_lt (z + 1) e)
    where
      go : Dec (z + 1 < e) → due z g (each 1 e one) ≡ each f t one
      go (no h) =
          let m : min z (e - 1) ≡ e - 1 = omega arith in
          let a : t ≡ f = et ∙ nothing f (e - 1) (min z (e - 1)) m in
          past e z g (omega arith) ∙ sym (rw a (each_end one f))
        where
          nothing : (f b c : ℕ) → c ≡ b → f + min g (b - c) ≡ f
          nothing f b c d = omega arith
      go (yes h) =
          let m : min z (e - 1) ≡ z = omega arith in
          let a : f ≡ z + 1 = rw m at ef in
          let b : t ≡ f + min g (e - 1 - z) = rw m at et in
          skip_to e z g (omega arith) ∙ rw (← a) (rest a b (dec_lt g (e - 1 - z)))
        where
          rest : f ≡ z + 1 → t ≡ f + min g (e - 1 - z) → Dec (g < e - 1 - z) → due 0 g (each f e one) ≡ each f t one
          rest a b (yes l) =
              let c : min g (e - 1 - z) ≡ g = omega arith in
              let d : t ≡ f + g = rw c at b in
              rw d (spend f e g (omega arith))
          rest a b (no l) =
              let c : min g (e - 1 - z) ≡ e - 1 - z = omega arith in
              let d : t ≡ e = (rw c at b) ∙ sum a in
              rw d (afford f e g (omega arith))
            where
              sum : f ≡ z + 1 → f + (e - 1 - z) ≡ e
              sum q = omega arith
