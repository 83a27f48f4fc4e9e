-- The numbers P and N: a bit for each 1, or each 2, of a block of a row. Assumes nothing.
use Prim.Native.Nat.{ℕ, zero, suc, ◌+◌, ◌-◌, ◌*◌, ◌/◌, ◌%◌, ◌^◌, ◌≤◌, ◌<◌}
use mathlib.Core.Path.{◌≡◌, refl, sym, ap, ap₂, ◌∙◌}
use native.Mathlib.Omega.{arith}
use native.Mathlib.Nat.{add-zero}
use Rattle.steps.specs.Matrix.{Row}
use Rattle.cells.specs.Bit.{word_of}
use Rattle.cells.specs.Counts.{sum, is, bits_of}
use Rattle.cells.proofs.WordLaws.{word_of_lt}
use Rattle.cells.proofs.CountLaws.{is_le}
use Rattle.steps.specs.Step.{lowest_bit, cleared}
use Rattle.steps.proofs.LowestBit.{lowest_ind}

pub bits_none : (d : ℕ) (r : Row) (s : ℕ) → bits_of d r s 0 ≡ 0
unfolding bits_of word_of
bits_none d r s = refl

-- the first column, and then the others
pub bits_first : (d : ℕ) (r : Row) (w s : ℕ) → bits_of d r s (suc w) ≡ is (r s) d + 2 * bits_of d r (suc s) w
unfolding bits_of word_of
bits_first d r w s =
    let here : is (r (s + 0)) d ≡ is (r s) d = ap (λ (j : ℕ). is (r j) d) (add-zero s) in
    let rest : word_of (λ i. is (r (s + suc i)) d) w ≡ word_of (λ i. is (r (suc s + i)) d) w = ap (λ (f : ℕ → ℕ). word_of f w) (λ k i. is (r (next i k)) d) in
    omega (arith, here, rest)
  where
    next : (i : ℕ) → s + suc i ≡ suc s + i
    next i = omega arith

pub bits_lt : (d : ℕ) (r : Row) (w s : ℕ) → bits_of d r s w < 2 ^ w
unfolding bits_of
bits_lt d r w s = word_of_lt (λ i. is (r (s + i)) d) w (λ i. omega (arith, is_le (r (s + i)) d))

-- only the block's own columns are read
pub bits_same : (d : ℕ) (r r' : Row) (w s : ℕ) → ((j : ℕ) → s ≤ j → j < s + w → r j ≡ r' j) → bits_of d r s w ≡ bits_of d r' s w
bits_same d r r' zero s h = bits_none d r s ∙ sym (bits_none d r' s)
bits_same d r r' (suc w) s h =
    bits_first d r w s
    ∙ ap₂ (λ (a b : ℕ). is a d + 2 * b) (h s (omega arith) (omega arith)) (bits_same d r r' w (suc s) (λ j a b. h j (omega arith) (omega arith)))
    ∙ sym (bits_first d r' w s)

-- ---- what a number picks: the sum of g (s + t) over its set bits t < w

unfoldable pub picked : ℕ → (ℕ → ℕ) → ℕ → ℕ → ℕ
picked x g s zero = 0
picked x g s (suc w) = x % 2 * g s + picked (x / 2) g (suc s) w

pub picked_zero : (g : ℕ → ℕ) (w s : ℕ) → picked 0 g s w ≡ 0
unfolding picked
picked_zero g zero s = refl
picked_zero g (suc w) s = omega (arith, picked_zero g w (suc s))

picked_bit : (b x : ℕ) (g : ℕ → ℕ) (w s : ℕ) → b ≤ 1 → picked (b + 2 * x) g s (suc w) ≡ b * g s + picked x g (suc s) w
unfolding picked
picked_bit b x g w s h =
    let e₁ : (b + 2 * x) % 2 ≡ b = omega arith in
    let e₂ : (b + 2 * x) / 2 ≡ x = omega arith in
    rw (e₁, e₂)

-- the lowest set bit taken out: why a table step is right
pub picked_lowest : (g : ℕ → ℕ) (x : ℕ) → 0 < x → (w s : ℕ) → x < 2 ^ w → picked x g s w ≡ picked (cleared x) g s w + g (s + lowest_bit x)
unfolding picked
picked_lowest g = lowest_ind (λ x. (w s : ℕ) → x < 2 ^ w → picked x g s w ≡ picked (cleared x) g s w + g (s + lowest_bit x)) odd even
  where
    odd : (x : ℕ) → x % 2 ≡ 1 → lowest_bit x ≡ 0 → cleared x ≡ x - 1 → (w s : ℕ) → x < 2 ^ w
        → picked x g s w ≡ picked (cleared x) g s w + g (s + lowest_bit x)
    odd x e t c zero s h = absurd (omega arith)
    odd x e t c (suc w) s h =
        let e₁ : (x - 1) % 2 ≡ 0 = omega arith in
        let e₂ : (x - 1) / 2 ≡ x / 2 = omega arith in
        rw (t, c, e, e₁, e₂, add-zero s) (omega arith)

    even : (x : ℕ) → 0 < x → x % 2 ≡ 0 → lowest_bit x ≡ suc (lowest_bit (x / 2)) → cleared x ≡ 2 * cleared (x / 2)
        → ((w s : ℕ) → x / 2 < 2 ^ w → picked (x / 2) g s w ≡ picked (cleared (x / 2)) g s w + g (s + lowest_bit (x / 2)))
        → (w s : ℕ) → x < 2 ^ w → picked x g s w ≡ picked (cleared x) g s w + g (s + lowest_bit x)
    even x p e t c ih zero s h = absurd (omega arith)
    even x p e t c ih (suc w) s h =
        let e₁ : 2 * cleared (x / 2) % 2 ≡ 0 = omega arith in
        let e₂ : 2 * cleared (x / 2) / 2 ≡ cleared (x / 2) = omega arith in
        let e₃ : s + suc (lowest_bit (x / 2)) ≡ suc s + lowest_bit (x / 2) = omega arith in
        rw (t, c, e, e₁, e₂, e₃) (omega (arith, ih w (suc s) (omega arith)))

digit : (a y : ℕ) → a < 3 → is a 1 * y + 2 * (is a 2 * y) ≡ a * y
unfolding is
digit zero y h = omega arith
digit (suc zero) y h = omega arith
digit (suc (suc zero)) y h = omega arith
digit (suc (suc (suc a))) y h = absurd (omega arith)

-- a row is its ones and twice its twos
pub ones_and_twos : (r : Row) (g : ℕ → ℕ) (w s : ℕ) → ((j : ℕ) → j < s + w → r j < 3)
    → picked (bits_of 1 r s w) g s w + 2 * picked (bits_of 2 r s w) g s w ≡ sum s w (λ j. r j * g j)
unfolding sum
ones_and_twos r g zero s h = rw (bits_none 1 r s, bits_none 2 r s, picked_zero)
ones_and_twos r g (suc w) s h =
    rw (bits_first 1 r w s, bits_first 2 r w s, picked_bit (is (r s) 1) (bits_of 1 r (suc s) w) g w s (is_le _ _), picked_bit (is (r s) 2) (bits_of 2 r (suc s) w) g w s (is_le _ _))
    (omega (arith, digit (r s) (g s) (h s (omega arith)), ones_and_twos r g w (suc s) (λ j lt. h j (omega arith))))
