-- Formulas of `!`, `&`, `|` and `^` over the words of any number of pairs of cells, as they act on the words and on the bits of one place;
-- and the law that a rule of digits, tested on every choice of digits, holds at every place. Assumes nothing.
use Rattle.std.proofs.Common.{◌≡◌, ℕ, zero, suc, ◌+◌, ◌-◌, ◌^◌, ◌<◌, ◌≤◌, min, max, Bool, true, false, ◌&&◌, T, eqb, leb, List, [], ◌∷◌, length, get_or, replicate, sym, refl, ap, ◌∙◌, ap₂, arith, eqb→eq, leb→le}
use native.Mathlib.Decide.{dec_lt}
use lib.Bits.{bit_and, bit_or, bit_xor, differ, and_lt, or_lt, xor_lt}
use Rattle.cells.specs.Bit.{bit}
use Rattle.cells.specs.Pair.{digit, LegalPair, Holds}
use Rattle.cells.proofs.BitLaws.{bit_lt, bit_of_and, bit_of_or, bit_of_xor}
use Rattle.cells.proofs.WordLaws.{bit_of_zero, bit_high, bit_not}

infix 70 !◌
infixl 60 ◌&◌
infixl 50 ◌⊕◌
infixl 40 ◌∣◌
-- the unit word and the sign word of pair i, and the operators
pub data Form : Type 0 where
  U S : ℕ → Form
  !◌ : Form → Form
  ◌&◌ ◌∣◌ ◌⊕◌ : Form → Form → Form

-- where the digit of pair i is 1, 2 or 0, if it is legal
abbrev pub Plus : ℕ → Form
Plus i = U i ⊕ S i

abbrev pub Minus : ℕ → Form
Minus i = S i

abbrev pub Zero : ℕ → Form
Zero i = ! U i

abbrev pub nth : List (ℕ × ℕ) → ℕ → ℕ × ℕ
nth [] i = (0, 0)
nth (p ∷ ps) zero = p
nth (p ∷ ps) (suc i) = nth ps i

abbrev pub words : List (ℕ × ℕ) → Form → ℕ
words ps (U i) = (nth ps i).0
words ps (S i) = (nth ps i).1
words ps (! f) = 2 ^ 64 - 1 - words ps f
words ps (f & g) = bit_and (words ps f) (words ps g)
words ps (f ∣ g) = bit_or (words ps f) (words ps g)
words ps (f ⊕ g) = bit_xor (words ps f) (words ps g)

abbrev pub bits : List (ℕ × ℕ) → Form → ℕ
bits ps (U i) = (nth ps i).0
bits ps (S i) = (nth ps i).1
bits ps (! f) = 1 - bits ps f
bits ps (f & g) = min (bits ps f) (bits ps g)
bits ps (f ∣ g) = max (bits ps f) (bits ps g)
bits ps (f ⊕ g) = differ (bits ps f) (bits ps g)

-- the bits at place t, their digits, and that each pair is legal
abbrev pub slice : List (ℕ × ℕ) → ℕ → List (ℕ × ℕ)
slice [] t = []
slice (p ∷ ps) t = (bit p.0 t, bit p.1 t) ∷ slice ps t

abbrev pub sums : List (ℕ × ℕ) → List ℕ
sums [] = []
sums (p ∷ ps) = (p.0 + p.1) ∷ sums ps

abbrev pub digits : List (ℕ × ℕ) → ℕ → List ℕ
digits [] t = []
digits (p ∷ ps) t = digit p.0 p.1 t ∷ digits ps t

abbrev pub AllLegal : List (ℕ × ℕ) → Type 0
AllLegal [] = Unit {0}
AllLegal (p ∷ ps) = LegalPair p.0 p.1 × AllLegal ps

-- each word has 64 bits, and so has what a formula makes of them
abbrev pub AllFit : List (ℕ × ℕ) → Type 0
AllFit [] = Unit {0}
AllFit (p ∷ ps) = ((p.0 < 2 ^ 64) × (p.1 < 2 ^ 64)) × AllFit ps

nth_fits : (ps : List (ℕ × ℕ)) (i : ℕ) → AllFit ps → ((nth ps i).0 < 2 ^ 64) × ((nth ps i).1 < 2 ^ 64)
nth_fits [] i w = (omega arith, omega arith)
nth_fits (p ∷ ps) zero w = w.0
nth_fits (p ∷ ps) (suc i) w = nth_fits ps i w.1

words_fit : (f : Form) (ps : List (ℕ × ℕ)) → AllFit ps → words ps f < 2 ^ 64
words_fit (U i) ps w = (nth_fits ps i w).0
words_fit (S i) ps w = (nth_fits ps i w).1
words_fit (! f) ps w = omega arith
words_fit (f & g) ps w = and_lt 64 _ _ (words_fit f ps w) (words_fit g ps w)
words_fit (f ∣ g) ps w = or_lt 64 _ _ (words_fit f ps w) (words_fit g ps w)
words_fit (f ⊕ g) ps w = xor_lt 64 _ _ (words_fit f ps w) (words_fit g ps w)

slice_at : (ps : List (ℕ × ℕ)) (t i : ℕ) → (bit (nth ps i).0 t ≡ (nth (slice ps t) i).0) × (bit (nth ps i).1 t ≡ (nth (slice ps t) i).1)
slice_at [] t i = (bit_of_zero t, bit_of_zero t)
slice_at (p ∷ ps) t zero = (refl, refl)
slice_at (p ∷ ps) t (suc i) = slice_at ps t i

-- a formula acts on each place apart
pub bit_words : (f : Form) (ps : List (ℕ × ℕ)) (t : ℕ) → AllFit ps → t < 64 → bit (words ps f) t ≡ bits (slice ps t) f
bit_words (U i) ps t w l = (slice_at ps t i).0
bit_words (S i) ps t w l = (slice_at ps t i).1
bit_words (! f) ps t w l = bit_not 64 _ t (words_fit f ps w) l ∙ ap (λ (x : ℕ). 1 - x) (bit_words f ps t w l)
bit_words (f & g) ps t w l = bit_of_and _ _ t ∙ ap₂ min (bit_words f ps t w l) (bit_words g ps t w l)
bit_words (f ∣ g) ps t w l = bit_of_or _ _ t ∙ ap₂ max (bit_words f ps t w l) (bit_words g ps t w l)
bit_words (f ⊕ g) ps t w l = bit_of_xor _ _ t ∙ ap₂ differ (bit_words f ps t w l) (bit_words g ps t w l)

sums_slice : (ps : List (ℕ × ℕ)) (t : ℕ) → sums (slice ps t) ≡ digits ps t
unfolding digit
sums_slice [] t = refl
sums_slice (p ∷ ps) t = rw (sums_slice ps t)

-- a test passes at every choice of n legal cells
abbrev pub all : ℕ → (List (ℕ × ℕ) → Bool) → Bool
all zero q = q []
all (suc n) q = all n (λ ps. q ((0, 0) ∷ ps)) && (all n (λ ps. q ((1, 0) ∷ ps)) && all n (λ ps. q ((1, 1) ∷ ps)))

left : (p q : Bool) → T (p && q) → T p
left true q t = tt
left false q t = t

right : (p q : Bool) → T (p && q) → T q
right true q t = t
right false q t = absurd t

all_at : (ps : List (ℕ × ℕ)) (t : ℕ) (q : List (ℕ × ℕ) → Bool) → AllLegal ps → T (all (length ps) q) → T (q (slice ps t))
unfolding LegalPair
all_at [] t q l h = h
all_at (p ∷ ps) t q l h = go (λ r. all_at ps t r l.1) (bit p.0 t) (bit p.1 t) (bit_lt p.0 t) (l.0 t)
  where
    row : (ℕ × ℕ) → Bool
    row c = all (length ps) (λ qs. q (c ∷ qs))

    go : ((r : List (ℕ × ℕ) → Bool) → T (all (length ps) r) → T (r (slice ps t))) → (a b : ℕ) → a < 2 → b ≤ a → T (q ((a, b) ∷ slice ps t))
    go ih zero zero ha hb = ih (λ qs. q ((0, 0) ∷ qs)) (left (row (0, 0)) (row (1, 0) && row (1, 1)) h)
    go ih zero (suc b) ha hb = absurd (omega arith)
    go ih (suc zero) zero ha hb = ih (λ qs. q ((1, 0) ∷ qs)) (left (row (1, 0)) (row (1, 1)) (right (row (0, 0)) (row (1, 0) && row (1, 1)) h))
    go ih (suc zero) (suc zero) ha hb = ih (λ qs. q ((1, 1) ∷ qs)) (right (row (1, 0)) (row (1, 1)) (right (row (0, 0)) (row (1, 0) && row (1, 1)) h))
    go ih (suc zero) (suc (suc b)) ha hb = absurd (omega arith)
    go ih (suc (suc a)) b ha hb = absurd (omega arith)

-- the formulas make a legal cell, and its digit is g of the digits
abbrev lawful : Form → Form → List (ℕ × ℕ) → Bool
lawful f h ps = leb (bits ps h) (bits ps f)

abbrev exact : Form → Form → (List ℕ → ℕ) → List (ℕ × ℕ) → Bool
exact f h g ps = eqb (bits ps f + bits ps h) (g (sums ps))

-- so at every choice of n legal cells; and zeros, which are all there is past the 64 places, give 0
abbrev pub table : ℕ → Form → Form → (List ℕ → ℕ) → Bool
table n f h g = all n (λ ps. lawful f h ps && exact f h g ps) && eqb (g (replicate n 0)) 0

digits_past : (ps : List (ℕ × ℕ)) (t : ℕ) → AllFit ps → 64 ≤ t → digits ps t ≡ replicate (length ps) 0
unfolding digit
digits_past [] t w n = refl
digits_past (p ∷ ps) t w n = rw (bit_high 64 p.0 t w.0.0 n, bit_high 64 p.1 t w.0.1 n, digits_past ps t w.1 n)

-- a rule that is right on every choice of digits is right at every place
pub law : (f h : Form) (g : List ℕ → ℕ) (ps : List (ℕ × ℕ)) → T (table (length ps) f h g) → AllLegal ps → AllFit ps → Holds (λ t. g (digits ps t)) (words ps f) (words ps h)
unfolding LegalPair digit
law f h g ps ok l w = record { legal = λ t. legal t (dec_lt t 64); digits = λ t. digit_at t (dec_lt t 64) }
  where
    right_at : List (ℕ × ℕ) → Bool
    right_at qs = lawful f h qs && exact f h g qs

    at : (t : ℕ) → T (right_at (slice ps t))
    at t = all_at ps t right_at l (left (all (length ps) right_at) (eqb (g (replicate (length ps) 0)) 0) ok)

    legal : (t : ℕ) → Dec (t < 64) → bit (words ps h) t ≤ bit (words ps f) t
    legal t (yes k) = rw (bit_words f ps t w k, bit_words h ps t w k) (leb→le _ _ (left (lawful f h (slice ps t)) (exact f h g (slice ps t)) (at t)))
    legal t (no n) = omega (arith, bit_high 64 _ t (words_fit h ps w) (omega arith))

    digit_at : (t : ℕ) → Dec (t < 64) → bit (words ps f) t + bit (words ps h) t ≡ g (digits ps t)
    digit_at t (yes k) = rw (bit_words f ps t w k, bit_words h ps t w k, ← sums_slice ps t) (eqb→eq _ _ (right (lawful f h (slice ps t)) (exact f h g (slice ps t)) (at t)))
    digit_at t (no n) =
        let past : 64 ≤ t = omega arith in
        rw (bit_high 64 _ t (words_fit f ps w) past, bit_high 64 _ t (words_fit h ps w) past, digits_past ps t w past) (sym (eqb→eq _ _ (right (all (length ps) right_at) (eqb (g (replicate (length ps) 0)) 0) ok)))

-- a rule of one or two digits as one of a list of them
abbrev pub on1 : (ℕ → ℕ) → List ℕ → ℕ
on1 g ds = g (get_or ds 0 0)

abbrev pub on2 : (ℕ → ℕ → ℕ) → List ℕ → ℕ
on2 g ds = g (get_or ds 0 0) (get_or ds 1 0)
