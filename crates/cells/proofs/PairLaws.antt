-- Laws of legal pairs of words. Assumes nothing.
use Rattle.std.proofs.Common.{◌≡◌, ℕ, zero, suc, ◌<◌, ◌≤◌, refl, ◌∙◌, arith}
use Rattle.cells.specs.Pair.{digit, LegalPair, Holds}
use Rattle.cells.proofs.WordLaws.{bit_of_zero}

-- a property of the three legal cells is one of every legal cell
pub cases : (P : ℕ → ℕ → Type 0) → P 0 0 → P 1 0 → P 1 1 → (u s : ℕ) → u < 2 → s ≤ u → P u s
cases P p q r zero zero h l = p
cases P p q r zero (suc s) h l = absurd (omega arith)
cases P p q r (suc zero) zero h l = q
cases P p q r (suc zero) (suc zero) h l = r
cases P p q r (suc zero) (suc (suc s)) h l = absurd (omega arith)
cases P p q r (suc (suc u)) s h l = absurd (omega arith)

-- a property of 0, 1 and 2 is one of every digit
pub by_digit : (P : ℕ → Type 0) → P 0 → P 1 → P 2 → (d : ℕ) → d < 3 → P d
by_digit P p q r zero h = p
by_digit P p q r (suc zero) h = q
by_digit P p q r (suc (suc zero)) h = r
by_digit P p q r (suc (suc (suc d))) h = absurd (omega arith)

-- words hold their own digits
pub holds_self : (u s : ℕ) → LegalPair u s → Holds (digit u s) u s
holds_self u s h = record { legal = h; digits = λ t. refl }

pub holds_cong : {f g : ℕ → ℕ} {u s : ℕ} → ((t : ℕ) → f t ≡ g t) → Holds f u s → Holds g u s
holds_cong e h = record { legal = h.legal; digits = λ t. h.digits t ∙ e t }

-- the words 0 and 0 hold zeros alone
pub legal_none : LegalPair 0 0
unfolding LegalPair
legal_none t = omega arith

pub digit_none : (t : ℕ) → digit 0 0 t ≡ 0
unfolding digit
digit_none t = omega (arith, bit_of_zero t)
