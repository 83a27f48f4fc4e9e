-- The laws that make combination, negation, scaling and transpose those of matrices over the field of three elements. They hold for
-- all sizes, and are stated of the buffers that the requests leave. Assumes nothing.
use mathlib.Core.Path.{◌≡◌, sym, ap, ap₂, ◌∙◌}
use mathlib.Core.List.{List}
use Prim.Native.Nat.{ℕ, ◌+◌, ◌*◌, ◌/◌, ◌%◌, ◌<◌}
use native.Mathlib.Nat.{mul-zero, one-mul, mul_comm, mul_assoc, mul-add, add-mul, div-add-mod', add-mul-mod_self_right}
use native.Mathlib.Omega.{arith}
use Rattle.cells.specs.Digit.{Matrix, combine, neg3, mul3}
use Rattle.cells.proofs.ScalingLaws.{combine_scaled}
use Rattle.buffers.specs.Buffer.{cell, Legal, Words, encode}
use Rattle.buffers.proofs.SizeLaws.{cell_lt}
use Rattle.buffers.proofs.BufferLaws.{cell_encode, encode_cell, encode_within}
use Rattle.matrix.specs.Combination.{combination_of}
use Rattle.matrix.specs.Negation.{negation_of}
use Rattle.matrix.specs.Scaling.{scaling_of}
use Rattle.matrix.specs.Transpose.{transpose_of}

-- ---- digits

pub combine_lt : (d a b : ℕ) → combine d a b < 3
unfolding combine
combine_lt d a b = omega arith

pub neg_lt : (a : ℕ) → neg3 a < 3
unfolding neg3
neg_lt a = omega arith

pub mul_lt : (a b : ℕ) → mul3 a b < 3
unfolding mul3
mul_lt a b = omega arith

combine_comm : (a b : ℕ) → combine 1 a b ≡ combine 1 b a
unfolding combine
combine_comm a b = omega arith

combine_assoc : (a b c : ℕ) → combine 1 (combine 1 a b) c ≡ combine 1 a (combine 1 b c)
unfolding combine
combine_assoc a b c = omega arith

combine_zero : (d a : ℕ) → a < 3 → combine d a 0 ≡ a
unfolding combine
combine_zero d a h = rw mul-zero (omega arith)

combine_none : (a b : ℕ) → a < 3 → combine 0 a b ≡ a
unfolding combine
combine_none a b h = omega arith

neg_twice : (a : ℕ) → neg3 a ≡ mul3 a 2
unfolding neg3 mul3
neg_twice a = ap (λ (n : ℕ). n % 3) (mul_comm 2 a)

-- a factor's remainder is enough
factor_mod : (s d : ℕ) → s % 3 * d % 3 ≡ s * d % 3
factor_mod s d =
    let whole : s * d ≡ s % 3 * d + s / 3 * d * 3 = ap (λ (n : ℕ). n * d) (sym (div-add-mod' s 3)) ∙ add-mul (s / 3 * 3) (s % 3) d ∙ omega (arith, turned) in
    sym (ap (λ (n : ℕ). n % 3) whole ∙ add-mul-mod_self_right (s % 3 * d) (s / 3 * d) 3)
  where
    turned : s / 3 * 3 * d ≡ s / 3 * d * 3
    turned = mul_assoc (s / 3) 3 d ∙ ap (λ (n : ℕ). s / 3 * n) (mul_comm 3 d) ∙ sym (mul_assoc (s / 3) d 3)

from_zero : (d a : ℕ) → combine d 0 a ≡ mul3 a d
unfolding combine mul3
from_zero d a = rw (mul_comm d a) (omega arith)

-- a remainder is enough, of the digit and of what it is combined with
digit_mod : (n a b : ℕ) → combine (n % 3) a b ≡ combine n a b
unfolding combine
digit_mod n a b = let e = factor_mod n b in omega arith

second_mod : (d a n : ℕ) → combine d a (n % 3) ≡ combine d a n
unfolding combine
second_mod d a n = let e = ap (λ (m : ℕ). m % 3) (mul_comm d (n % 3)) ∙ factor_mod n d ∙ ap (λ (m : ℕ). m % 3) (mul_comm n d) in omega arith

combine_more : (d e a b : ℕ) → combine e (combine d a b) b ≡ combine ((d + e) % 3) a b
unfolding combine
combine_more d e a b = let f = add-mul d e b in joined (d * b) (e * b) ∙ ap (λ (n : ℕ). (a + n) % 3) (sym f) ∙ sym (digit_mod (d + e) a b)
  where
    joined : (p q : ℕ) → ((a + p) % 3 + q) % 3 ≡ (a + (p + q)) % 3
    joined p q = omega arith

combine_splits : (d a b c : ℕ) → combine d a (combine 1 b c) ≡ combine d (combine d a b) c
unfolding combine
combine_splits d a b c = second_mod d a (b + 1 * c) ∙ go (d * b) (d * c) (d * (b + 1 * c)) (mul-add d b (1 * c) ∙ ap (λ (n : ℕ). d * b + d * n) (one-mul c))
  where
    go : (p q n : ℕ) → n ≡ p + q → (a + n) % 3 ≡ ((a + p) % 3 + q) % 3
    go p q n e = omega arith

-- ---- buffers

-- zeros
abbrev pub zero_of : ℕ → ℕ → List ℕ
zero_of r c = encode r c (λ i j. 0)

module _ (r c : ℕ) where
  at : (M : Matrix) → ((i j : ℕ) → M i j < 3) → (i j : ℕ) → i < r → j < c → cell c (encode r c M) i j ≡ M i j
  at M small i j h l = cell_encode r c M i j h l (small i j)

  pub combination_at : (d : ℕ) (a b : List ℕ) (i j : ℕ) → i < r → j < c → cell c (combination_of d r c a b) i j ≡ combine d (cell c a i j) (cell c b i j)
  unfolding combination_of
  combination_at d a b = at (λ i j. combine d (cell c a i j) (cell c b i j)) (λ i j. combine_lt d _ _)

  scaling_at : (d : ℕ) (a : List ℕ) (i j : ℕ) → i < r → j < c → cell c (scaling_of d r c a) i j ≡ mul3 (cell c a i j) d
  unfolding scaling_of
  scaling_at d a = at (λ i j. mul3 (cell c a i j) d) (λ i j. mul_lt _ _)

  zero_at : (i j : ℕ) → i < r → j < c → cell c (zero_of r c) i j ≡ 0
  zero_at = at (λ i j. 0) (λ i j. omega arith)

  pub combination_commutes : (a b : List ℕ) → combination_of 1 r c a b ≡ combination_of 1 r c b a
  unfolding combination_of
  combination_commutes a b = encode_within r c _ _ (λ i j h l. combine_comm (cell c a i j) (cell c b i j))

  pub combination_associates : (a b d : List ℕ) → combination_of 1 r c (combination_of 1 r c a b) d ≡ combination_of 1 r c a (combination_of 1 r c b d)
  unfolding combination_of
  combination_associates a b d =
      encode_within r c _ _
      (λ i j h l.
      ap (λ (n : ℕ). combine 1 n (cell c d i j)) (combination_at 1 a b i j h l) ∙ combine_assoc (cell c a i j) (cell c b i j) (cell c d i j)
      ∙ ap (combine 1 (cell c a i j)) (sym (combination_at 1 b d i j h l)))

  pub combination_zero : (d : ℕ) (a : List ℕ) → Legal r c a → Words a → combination_of d r c a (zero_of r c) ≡ a
  unfolding combination_of
  combination_zero d a L fits =
      encode_within r c _ (cell c a) (λ i j h l. ap (combine d (cell c a i j)) (zero_at i j h l) ∙ combine_zero d (cell c a i j) (cell_lt c a i j)) ∙ encode_cell r c a L fits

  -- by 0 it is the first matrix
  pub combination_none : (a b : List ℕ) → Legal r c a → Words a → combination_of 0 r c a b ≡ a
  unfolding combination_of
  combination_none a b L fits = encode_within r c _ (cell c a) (λ i j h l. combine_none (cell c a i j) (cell c b i j) (cell_lt c a i j)) ∙ encode_cell r c a L fits

  -- by d and then by e it is by d + e
  pub combination_adds : (d e : ℕ) (a b : List ℕ) → combination_of e r c (combination_of d r c a b) b ≡ combination_of ((d + e) % 3) r c a b
  unfolding combination_of
  combination_adds d e a b =
      encode_within r c _ _
      (λ i j h l. ap (λ (n : ℕ). combine e n (cell c b i j)) (combination_at d a b i j h l) ∙ combine_more d e (cell c a i j) (cell c b i j))

  -- so by 2 it undoes what it did by 1
  pub combination_undone : (a b : List ℕ) → Legal r c a → Words a → combination_of 2 r c (combination_of 1 r c a b) b ≡ a
  combination_undone a b L fits = combination_adds 1 2 a b ∙ combination_none a b L fits

  -- with zeros it is scaling
  pub combination_scales : (d : ℕ) (a : List ℕ) → combination_of d r c (zero_of r c) a ≡ scaling_of d r c a
  unfolding combination_of scaling_of
  combination_scales d a = encode_within r c _ _ (λ i j h l. ap (λ (n : ℕ). combine d n (cell c a i j)) (zero_at i j h l) ∙ from_zero d (cell c a i j))

  -- it is the sum with the second scaled
  pub combination_of_scaled : (d : ℕ) (a b : List ℕ) → combination_of d r c a b ≡ combination_of 1 r c a (scaling_of d r c b)
  unfolding combination_of
  combination_of_scaled d a b =
      encode_within r c _ _ (λ i j h l. sym (combine_scaled d (cell c a i j) (cell c b i j)) ∙ ap (combine 1 (cell c a i j)) (sym (scaling_at d b i j h l)))

  -- over a sum it splits
  pub combination_splits : (d : ℕ) (a b e : List ℕ) → combination_of d r c a (combination_of 1 r c b e) ≡ combination_of d r c (combination_of d r c a b) e
  unfolding combination_of
  combination_splits d a b e =
      encode_within r c _ _
      (λ i j h l.
      ap (combine d (cell c a i j)) (combination_at 1 b e i j h l) ∙ combine_splits d (cell c a i j) (cell c b i j) (cell c e i j)
      ∙ ap (λ (n : ℕ). combine d n (cell c e i j)) (sym (combination_at d a b i j h l)))

  pub negation_scales : (a : List ℕ) → negation_of r c a ≡ scaling_of 2 r c a
  unfolding negation_of scaling_of
  negation_scales a = encode_within r c _ _ (λ i j h l. neg_twice (cell c a i j))

  pub negation_from_zero : (a : List ℕ) → negation_of r c a ≡ combination_of 2 r c (zero_of r c) a
  negation_from_zero a = negation_scales a ∙ sym (combination_scales 2 a)

  pub scaling_distributes : (d : ℕ) (a b : List ℕ) → scaling_of d r c (combination_of 1 r c a b) ≡ combination_of 1 r c (scaling_of d r c a) (scaling_of d r c b)
  scaling_distributes d a b =
      sym (combination_scales d (combination_of 1 r c a b)) ∙ combination_splits d (zero_of r c) a b
      ∙ ap (λ (s : List ℕ). combination_of d r c s b) (combination_scales d a)
      ∙ combination_of_scaled d (scaling_of d r c a) b

transpose_at : (r c : ℕ) (a : List ℕ) (i j : ℕ) → i < c → j < r → cell r (transpose_of r c a) i j ≡ cell c a j i
unfolding transpose_of
transpose_at r c a i j h l = cell_encode c r (λ i j. cell c a j i) i j h l (cell_lt c a j i)

pub transpose_twice : (r c : ℕ) (a : List ℕ) → Legal r c a → Words a → transpose_of c r (transpose_of r c a) ≡ a
unfolding transpose_of
transpose_twice r c a L fits = encode_within r c _ (cell c a) (λ i j h l. transpose_at r c a j i l h) ∙ encode_cell r c a L fits

pub transpose_of_combination : (d r c : ℕ) (a b : List ℕ) → transpose_of r c (combination_of d r c a b) ≡ combination_of d c r (transpose_of r c a) (transpose_of r c b)
unfolding transpose_of combination_of
transpose_of_combination d r c a b =
    encode_within c r _ _ (λ i j h l. combination_at r c d a b j i l h ∙ sym (ap₂ (combine d) (transpose_at r c a i j h l) (transpose_at r c b i j h l)))
