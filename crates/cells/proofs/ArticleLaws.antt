-- The article's formulas of sum and difference over words of 64 bits (its 4.1), where r0 is to be the unit and r1 the sign: those of the sum are right if
-- they are exchanged, those of the difference as they are printed. Those of the negative are our code. Assumes nothing.
use Rattle.std.proofs.Common.{◌≡◌, ℕ, [], ◌∷◌, refl}
use Rattle.cells.specs.Digit.{combine}
use Rattle.cells.specs.Pair.{digit, Holds}
use Rattle.cells.proofs.FormLaws.{Form, U, S, ◌&◌, ◌∣◌, ◌⊕◌, words, bits, AllLegal, AllFit, law, on2}

-- x is pair 0, y is pair 1
abbrev sum_r0 : Form
sum_r0 = (U 0 ⊕ S 1) & (S 0 ⊕ U 1)

abbrev sum_r1 : Form
sum_r1 = (U 0 ⊕ S 1 ⊕ S 0) ∣ (S 0 ⊕ U 1 ⊕ S 1)

abbrev difference_r0 : Form
difference_r0 = U 0 ⊕ U 1 ∣ (S 0 ⊕ S 1)

abbrev difference_r1 : Form
difference_r1 = (U 0 ⊕ U 1 ⊕ S 1) & (U 1 ⊕ S 0)

abbrev at : ℕ × ℕ → ℕ → ℕ
at x t = digit x.0 x.1 t

-- the article's 1 + 0 is a sign without unit
pub sum_printed : (bits ((1, 0) ∷ (0, 0) ∷ []) sum_r0 ≡ 0) × (bits ((1, 0) ∷ (0, 0) ∷ []) sum_r1 ≡ 1)
sum_printed = (refl, refl)

-- with its two results exchanged it is the sum
pub sum_exchanged : (x y : ℕ × ℕ) → AllLegal (x ∷ y ∷ []) → AllFit (x ∷ y ∷ []) → Holds (λ t. combine 1 (at x t) (at y t)) (words (x ∷ y ∷ []) sum_r1) (words (x ∷ y ∷ []) sum_r0)
unfolding combine
sum_exchanged x y l w = law sum_r1 sum_r0 (on2 (combine 1)) (x ∷ y ∷ []) tt l w

pub difference_printed : (x y : ℕ × ℕ) → AllLegal (x ∷ y ∷ []) → AllFit (x ∷ y ∷ []) → Holds (λ t. combine 2 (at x t) (at y t)) (words (x ∷ y ∷ []) difference_r0) (words (x ∷ y ∷ []) difference_r1)
unfolding combine
difference_printed x y l w = law difference_r0 difference_r1 (on2 (combine 2)) (x ∷ y ∷ []) tt l w
