-- Laws of the first place where a test holds. Assumes nothing.
use Rattle.std.proofs.Common.{◌≡◌, ℕ, zero, suc, ◌<◌, ◌≤◌, Bool, true, false, cond, ◌||◌, sym, refl, ap, ◌∙◌, ap₂, arith}
use native.Mathlib.Decide.{dec_lt}
use Rattle.cells.specs.Any.{any, least, First}
use Rattle.cells.proofs.AnyLaws.{any_none, any_at}

pub true_false : (b : Bool) → b ≡ true → b ≡ false → ⊥
true_false b h k = let e : ◌≡◌ {A = Bool} true false = sym h ∙ k in let y : ◌≡◌ {A = ℕ} 0 1 = cc in omega arith

-- where it holds at i and nowhere before, i is the first place
pub least_is : (f : ℕ → Bool) (n i : ℕ) → i < n → f i ≡ true → any i f ≡ false → least n f ≡ i
unfolding least
least_is f zero i l h k = absurd (omega arith)
least_is f (suc n) zero l h k = rw h
least_is f (suc n) (suc i) l h k =
    rw (any_at f (suc i) k 0 (omega arith))
    (ap suc (least_is (λ t. f (suc t)) n i (omega arith) h (any_none (λ t. f (suc t)) i (λ t m. any_at f (suc i) k (suc t) (omega arith)))))

pub least_none : (f : ℕ → Bool) (n : ℕ) → any n f ≡ false → least n f ≡ n
unfolding least
least_none f zero k = refl
least_none f (suc n) k =
    rw (any_at f (suc n) k 0 (omega arith)) (ap suc (least_none (λ t. f (suc t)) n (any_none (λ t. f (suc t)) n (λ t m. any_at f (suc n) k (suc t) (omega arith)))))

-- a test that holds below n, and nowhere below i
pub any_beyond : (f : ℕ → Bool) (n i : ℕ) → any n f ≡ true → any i f ≡ false → i < n
any_beyond f n i h k = go (dec_lt i n)
  where
    go : Dec (i < n) → i < n
    go (yes l) = l
    go (no l) = absurd (true_false (any n f) h (any_none f n (λ t m. any_at f i k t (omega arith))))

pub least_of : (f : ℕ → Bool) (n i : ℕ) → any n f ≡ true → f i ≡ true → any i f ≡ false → least n f ≡ i
least_of f n i h = λ e k. least_is f n i (any_beyond f n i h k) e k

-- where it holds at all, the first place is one
pub least_first : (f : ℕ → Bool) (n : ℕ) → any n f ≡ true → First n f (least n f)
unfolding any
least_first f zero h = absurd (true_false false h refl)
least_first f (suc n) h = go (any n f) refl (f n) refl h (least_first f n)
  where
    go : (a : Bool) → any n f ≡ a → (b : Bool) → f n ≡ b → (a || b) ≡ true → (any n f ≡ true → First n f (least n f)) → First (suc n) f (least (suc n) f)
    go true ea b eb e ih =
        let F = ih ea in
        let same : least (suc n) f ≡ least n f = least_is f (suc n) (least n f) (omega (arith, F.within)) F.holds F.none in
        rw same (record { within = omega (arith, F.within); holds = F.holds; none = F.none })
    go false ea true eb e ih =
        let same : least (suc n) f ≡ n = least_is f (suc n) n (omega arith) eb ea in
        rw same (record { within = omega arith; holds = eb; none = ea })
    go false ea false eb e ih = absurd (true_false false e refl)

pub least_le : (f : ℕ → Bool) (n : ℕ) → least n f ≤ n
least_le f n = go (any n f) refl
  where
    go : (b : Bool) → any n f ≡ b → least n f ≤ n
    go true e = omega (arith, (least_first f n e).within)
    go false e = omega (arith, least_none f n e)

-- there is a first place below n exactly where it holds at all
pub least_some : (f : ℕ → Bool) (n : ℕ) → least n f < n → any n f ≡ true
least_some f n l = go (any n f) refl
  where
    go : (b : Bool) → any n f ≡ b → any n f ≡ true
    go true e = e
    go false e = absurd (omega (arith, least_none f n e))

pub least_all : (f : ℕ → Bool) (n : ℕ) → n ≤ least n f → any n f ≡ false
least_all f n l = go (any n f) refl
  where
    go : (b : Bool) → any n f ≡ b → any n f ≡ false
    go true e = absurd (omega (arith, (least_first f n e).within))
    go false e = e

pub least_cong : (f g : ℕ → Bool) (n : ℕ) → ((t : ℕ) → t < n → f t ≡ g t) → least n f ≡ least n g
unfolding least
least_cong f g zero h = refl
least_cong f g (suc n) h =
    ap₂ (λ (b : Bool) (k : ℕ). cond b 0 (suc k)) (h 0 (omega arith)) (least_cong (λ t. f (suc t)) (λ t. g (suc t)) n (λ t l. h (suc t) (omega arith)))
