-- The lowest set bit of a number. Assumes nothing.
use Prim.Native.Nat.{ℕ, zero, suc, ◌+◌, ◌-◌, ◌*◌, ◌/◌, ◌%◌, ◌^◌, ◌≤◌, ◌<◌}
use mathlib.Core.Path.{◌≡◌, refl, sym, ap, ◌∙◌}
use native.Mathlib.Omega.{arith}
use native.Mathlib.Nat.{div-div-eq-div-mul, pow-succ', div-one}
use lib.Pow.{pow_pos}
use lib.Count.{count_trailing_zeros}
use Rattle.steps.specs.Step.{lowest_bit, cleared}

-- x binary digits are enough for x
pub lt_pow : (x : ℕ) → x < 2 ^ x
lt_pow zero = omega arith
lt_pow (suc x) = omega (arith, lt_pow x)

-- any number of digits that is enough for x finds the same lowest bit
trailing_wider : (w v x : ℕ) → 0 < x → x < 2 ^ w → x < 2 ^ v → count_trailing_zeros v x ≡ count_trailing_zeros w x
unfolding count_trailing_zeros
trailing_wider zero v x p h h' = absurd (omega arith)
trailing_wider (suc w) zero x p h h' = absurd (omega arith)
trailing_wider (suc w) (suc v) x p h h' = go (x % 2) refl (λ q. trailing_wider w v (x / 2) q (omega arith) (omega arith))
  where
    go : (d : ℕ) → x % 2 ≡ d → (0 < x / 2 → count_trailing_zeros v (x / 2) ≡ count_trailing_zeros w (x / 2)) → count_trailing_zeros (suc v) x ≡ count_trailing_zeros (suc w) x
    go zero e ih = rw e (ap suc (ih (omega arith)))
    go (suc d) e ih = rw e

-- what a machine's count of trailing zeros gives, in a word of w bits
pub lowest_trailing : (w x : ℕ) → 0 < x → x < 2 ^ w → count_trailing_zeros w x ≡ lowest_bit x
unfolding lowest_bit
lowest_trailing w x p h = trailing_wider x w x p (lt_pow x) h

-- the lowest bit of a number is one of its bits
trailing_lt : (w x : ℕ) → 0 < x → x < 2 ^ w → (count_trailing_zeros w x < w) × (2 ^ count_trailing_zeros w x ≤ x)
unfolding count_trailing_zeros
trailing_lt zero x p h = absurd (omega arith)
trailing_lt (suc w) x p h = go (x % 2) refl (λ q. trailing_lt w (x / 2) q (omega arith))
  where
    t : ℕ
    t = count_trailing_zeros w (x / 2)

    go : (d : ℕ) → x % 2 ≡ d → (0 < x / 2 → (t < w) × (2 ^ t ≤ x / 2)) → (count_trailing_zeros (suc w) x < suc w) × (2 ^ count_trailing_zeros (suc w) x ≤ x)
    go zero e ih =
        let h : (t < w) × (2 ^ t ≤ x / 2) = ih (omega arith) in
        let g : (suc t < suc w) × (2 ^ suc t ≤ x) = (omega arith, omega arith) in
        rw e g
    go (suc d) e ih = rw e (omega arith, omega arith)

pub lowest_lt : (w x : ℕ) → 0 < x → x < 2 ^ w → lowest_bit x < w
lowest_lt w x p h = rw (← (lowest_trailing w x p h)) (trailing_lt w x p h).0

-- x is what is left, and the weight of its lowest bit
pub lowest_split : (x : ℕ) → 0 < x → x ≡ cleared x + 2 ^ lowest_bit x
unfolding cleared lowest_bit
lowest_split x p = omega (arith, (trailing_lt x x p (lt_pow x)).1)

pub cleared_lt : (x : ℕ) → 0 < x → cleared x < x
cleared_lt x p = omega (arith, lowest_split x p, pow_pos (lowest_bit x))

-- ---- one bit further up

lowest_even : (x : ℕ) → 0 < x → x % 2 ≡ 0 → lowest_bit x ≡ suc (lowest_bit (x / 2))
unfolding count_trailing_zeros
lowest_even x p e =
    sym (lowest_trailing (suc x) x p (omega (arith, lt_pow x))) ∙ rw e (ap suc (lowest_trailing x (x / 2) (omega arith) (omega (arith, lt_pow x))))

lowest_odd : (x : ℕ) → x % 2 ≡ 1 → lowest_bit x ≡ 0
unfolding count_trailing_zeros
lowest_odd x e = sym (lowest_trailing (suc x) x (omega arith) (omega (arith, lt_pow x))) ∙ rw e

cleared_even : (x : ℕ) → 0 < x → x % 2 ≡ 0 → cleared x ≡ 2 * cleared (x / 2)
unfolding cleared
cleared_even x p e =
    let g : x - 2 ^ suc (lowest_bit (x / 2)) ≡ 2 * (x / 2 - 2 ^ lowest_bit (x / 2)) = omega arith in
    rw (lowest_even x p e) g

cleared_odd : (x : ℕ) → x % 2 ≡ 1 → cleared x ≡ x - 1
unfolding cleared
cleared_odd x e = rw (lowest_odd x e)

-- A property of every number above 0, from the odd ones up: what holds of x / 2 is had for an even x.
pub lowest_ind : (Q : ℕ → Type 0) → ((x : ℕ) → x % 2 ≡ 1 → lowest_bit x ≡ 0 → cleared x ≡ x - 1 → Q x)
    → ((x : ℕ) → 0 < x → x % 2 ≡ 0 → lowest_bit x ≡ suc (lowest_bit (x / 2)) → cleared x ≡ 2 * cleared (x / 2) → Q (x / 2) → Q x)
    → (x : ℕ) → 0 < x → Q x
lowest_ind Q odd even x p = go x x p (lt_pow x)
  where
    go : (w x : ℕ) → 0 < x → x < 2 ^ w → Q x
    go zero x p h = absurd (omega arith)
    go (suc w) x p h = by (x % 2) refl (λ q. go w (x / 2) q (omega arith))
      where
        by : (d : ℕ) → x % 2 ≡ d → (0 < x / 2 → Q (x / 2)) → Q x
        by zero e ih = even x p e (lowest_even x p e) (cleared_even x p e) (ih (omega arith))
        by (suc zero) e ih = odd x e (lowest_odd x e) (cleared_odd x e)
        by (suc (suc d)) e ih = absurd (omega arith)

-- ---- that it is the lowest bit that is set

-- bit t of x
abbrev bit_at : ℕ → ℕ → ℕ
bit_at x t = x / 2 ^ t % 2

bit_half : (x t : ℕ) → bit_at x (suc t) ≡ bit_at (x / 2) t
bit_half x t = rw (pow-succ', ← (div-div-eq-div-mul x 2 (2 ^ t)))

pub lowest_set : (x : ℕ) → 0 < x → x / 2 ^ lowest_bit x % 2 ≡ 1
lowest_set = lowest_ind (λ x. bit_at x (lowest_bit x) ≡ 1) (λ x e t _. rw (t, div-one) e) (λ x p e t _ ih. rw (t, bit_half) ih)

pub lowest_below : (x : ℕ) → 0 < x → (t : ℕ) → t < lowest_bit x → x / 2 ^ t % 2 ≡ 0
lowest_below = lowest_ind (λ x. (t : ℕ) → t < lowest_bit x → bit_at x t ≡ 0) (λ x e z _ t h. absurd (omega arith)) further
  where
    further : (x : ℕ) → 0 < x → x % 2 ≡ 0 → lowest_bit x ≡ suc (lowest_bit (x / 2)) → cleared x ≡ 2 * cleared (x / 2)
        → ((t : ℕ) → t < lowest_bit (x / 2) → bit_at (x / 2) t ≡ 0) → (t : ℕ) → t < lowest_bit x → bit_at x t ≡ 0
    further x p e z _ ih zero h = rw div-one e
    further x p e z _ ih (suc t) h = rw bit_half (ih t (omega arith))

-- a bit that is set and has none set below it is the lowest
pub lowest_only : (x t : ℕ) → 0 < x → x / 2 ^ t % 2 ≡ 1 → ((i : ℕ) → i < t → x / 2 ^ i % 2 ≡ 0) → t ≡ lowest_bit x
lowest_only x t p one none = omega (arith, no_higher, no_lower)
  where
    no_higher : t < lowest_bit x → ⊥
    no_higher h = omega (arith, lowest_below x p t h)

    no_lower : lowest_bit x < t → ⊥
    no_lower h = omega (arith, none (lowest_bit x) h, lowest_set x p)

pub cleared_only : (x t rest : ℕ) → 0 < x → t ≡ lowest_bit x → x ≡ rest + 2 ^ t → rest ≡ cleared x
unfolding cleared
cleared_only x t rest p e h = rw (← e) (omega arith)
