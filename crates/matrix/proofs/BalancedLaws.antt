-- Balanced rows: each level has a third of the columns, and levels that change places keep it. Assumes nothing.
use mathlib.Core.Path.{◌≡◌, refl, sym, ap, ◌∙◌}
use mathlib.Core.Bool.{Bool, true, false, not-eq-not, and-eq-true_iff}
use mathlib.Core.List.{List}
use Prim.Native.Nat.{ℕ, ◌*◌, ◌/◌, ◌%◌, ◌<◌}
use native.Mathlib.Omega.{arith}
use lib.Dec.{eqb}
use borrow.Author.Tests.{eqb-true, eq-eqb}
use Rattle.cells.specs.Counts.{sum}
use Rattle.cells.specs.Digit.{combine, neg3}
use Rattle.cells.proofs.CountLaws.{is_where}
use Rattle.cells.proofs.PairLaws.{by_digit}
use Rattle.cells.proofs.SumLaws.{sum_ext}
use Rattle.buffers.specs.Buffer.{cell, encode}
use Rattle.buffers.proofs.SizeLaws.{cell_lt}
use Rattle.buffers.proofs.BufferLaws.{cell_encode}
use Rattle.rows.specs.Tally.{columns_with}
use Rattle.rows.proofs.TallyLaws.{columns_same, columns_all}
use Rattle.matrix.specs.Negation.{negation_of}
use Rattle.matrix.specs.Combination.{combination_of}
use Rattle.matrix.specs.Tally.{balanced}
use Rattle.matrix.proofs.FieldLaws.{neg_lt, combination_at}

same_truth : (p q : Bool) → (p ≡ true → q ≡ true) → (q ≡ true → p ≡ true) → p ≡ q
same_truth true q f g = sym (f refl)
same_truth false true f g = g refl
same_truth false false f g = refl

-- ---- what a balanced row is

pub balanced_none : (row : ℕ → ℕ) → balanced row 0 ≡ true
unfolding balanced columns_with sum
balanced_none row = refl

module _ (row : ℕ → ℕ) (c : ℕ) where
  equally_many : balanced row c ≡ true → (columns_with 0 row c ≡ columns_with 1 row c) × (columns_with 1 row c ≡ columns_with 2 row c)
  unfolding balanced
  equally_many b =
      let both = (and-eq-true_iff (eqb (columns_with 0 row c) (columns_with 1 row c)) (eqb (columns_with 1 row c) (columns_with 2 row c))).0 b in
      (eqb-true _ _ both.0, eqb-true _ _ both.1)

  balanced_where : columns_with 0 row c ≡ columns_with 1 row c → columns_with 1 row c ≡ columns_with 2 row c → balanced row c ≡ true
  unfolding balanced
  balanced_where e f = rw (eq-eqb _ _ e, eq-eqb _ _ f)

  -- balanced exactly when each of the three counts, times 3, is the length
  pub balanced_exactly : ((j : ℕ) → j < c → row j < 3)
      → (balanced row c ≡ true → (d : ℕ) → d < 3 → 3 * columns_with d row c ≡ c) × (((d : ℕ) → d < 3 → 3 * columns_with d row c ≡ c) → balanced row c ≡ true)
  balanced_exactly small = (
    λ b.
        let all = columns_all row c small in
        let same = equally_many b in
        by_digit (λ (d : ℕ). 3 * columns_with d row c ≡ c) (omega arith) (omega arith) (omega arith),
    λ each. balanced_where (omega (arith, each 0 (omega arith), each 1 (omega arith))) (omega (arith, each 1 (omega arith), each 2 (omega arith))),
  )

  -- its length is a multiple of 3, and each level has a third of the columns
  pub balanced_thirds : ((j : ℕ) → j < c → row j < 3) → balanced row c ≡ true → (c % 3 ≡ 0) × ((d : ℕ) → d < 3 → columns_with d row c ≡ c / 3)
  balanced_thirds small b =
      let each = (balanced_exactly small).0 b in
      (omega (arith, each 0 (omega arith)), λ d l. omega (arith, each d l))

  -- a length that is no multiple of 3
  pub never_balanced : ((j : ℕ) → j < c → row j < 3) → (c % 3 ≡ 0 → ⊥) → balanced row c ≡ false
  never_balanced small ne = (not-eq-not {a = balanced row c} {b = false}).0 (λ b. ne (balanced_thirds small b).0)

-- ---- levels that change places

-- f and g take levels to levels, and each undoes the other
pub record Exchange (f g : ℕ → ℕ) : Type 0 where
  pub there : (d : ℕ) → d < 3 → (f d < 3) × (g (f d) ≡ d)
  pub back : (d : ℕ) → d < 3 → (g d < 3) × (f (g d) ≡ d)

module _ (f g : ℕ → ℕ) (x : Exchange f g) (row : ℕ → ℕ) (c : ℕ) (small : (j : ℕ) → j < c → row j < 3) where
  -- the columns with d are those that had what f takes to d
  pub columns_exchanged : (d : ℕ) → d < 3 → columns_with d (λ j. f (row j)) c ≡ columns_with (g d) row c
  unfolding columns_with
  columns_exchanged d k =
      sum_ext _ _ c 0
      (λ j _ l. is_where (f (row j)) d (row j) (g d) (λ e. sym (x.there (row j) (small j (omega arith))).1 ∙ ap g e) (λ e. ap f e ∙ (x.back d k).1))

  pub balanced_exchanged : balanced (λ j. f (row j)) c ≡ balanced row c
  balanced_exchanged =
      let before = balanced_exactly row c small in
      let after = balanced_exactly (λ j. f (row j)) c (λ j l. (x.there (row j) (small j l)).0) in
      same_truth _ _
      (λ b. before.1 (λ d l. let y = x.there d l in omega (arith, columns_exchanged (f d) y.0, ap (λ (n : ℕ). columns_with n row c) y.1, after.0 b (f d) y.0)))
      (λ b. after.1 (λ d l. omega (arith, columns_exchanged d l, before.0 b (g d) (x.back d l).0)))

-- ---- of what the requests leave

balanced_same : (row row' : ℕ → ℕ) (c : ℕ) → ((j : ℕ) → j < c → row j ≡ row' j) → balanced row c ≡ balanced row' c
unfolding balanced
balanced_same row row' c e = rw (columns_same 0 row row' c e, columns_same 1 row row' c e, columns_same 2 row row' c e)

negates : Exchange neg3 neg3
unfolding neg3
negates = record { there = twice; back = twice }
  where
    twice : (d : ℕ) → d < 3 → (neg3 d < 3) × (neg3 (neg3 d) ≡ d)
    twice = by_digit (λ (d : ℕ). (neg3 d < 3) × (neg3 (neg3 d) ≡ d)) (omega arith, refl) (omega arith, refl) (omega arith, refl)

-- negation exchanges ones and twos
pub negation_keeps_balance : (c : ℕ) (a : List ℕ) → balanced (cell c (negation_of 1 c a) 0) c ≡ balanced (cell c a 0) c
unfolding negation_of
negation_keeps_balance c a =
    balanced_same _ (λ j. neg3 (cell c a 0 j)) c (λ j l. cell_encode 1 c (λ i j. neg3 (cell c a i j)) 0 j (omega arith) l (neg_lt _))
    ∙ balanced_exchanged neg3 neg3 negates (cell c a 0) c (λ j _. cell_lt c a 0 j)

adds_one : Exchange (λ a. combine 1 a 1) (λ a. combine 2 a 1)
unfolding combine
adds_one = record { there = λ d l. (omega arith, omega arith); back = λ d l. (omega arith, omega arith) }

-- 1 added to every cell turns all three levels
pub combination_keeps_balance : (c : ℕ) (a : List ℕ) → balanced (cell c (combination_of 1 1 c a (encode 1 c (λ i j. 1))) 0) c ≡ balanced (cell c a 0) c
combination_keeps_balance c a =
    let ones = encode 1 c (λ i j. 1) in
    balanced_same _ (λ j. combine 1 (cell c a 0 j) 1) c
    (λ j l. combination_at 1 c 1 a ones 0 j (omega arith) l ∙ ap (combine 1 (cell c a 0 j)) (cell_encode 1 c (λ i j. 1) 0 j (omega arith) l (omega arith)))
    ∙ balanced_exchanged (λ a. combine 1 a 1) (λ a. combine 2 a 1) adds_one (cell c a 0) c (λ j _. cell_lt c a 0 j)
