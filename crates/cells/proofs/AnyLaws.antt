-- Laws of a test that holds somewhere. Assumes nothing.
use Rattle.std.proofs.Common.{◌≡◌, ℕ, zero, suc, ◌+◌, ◌-◌, ◌<◌, ◌≤◌, Bool, true, false, not, ◌||◌, eqb, sym, refl, ap₂, add-zero, add-one, arith, eqb-true}
use mathlib.Core.Bool.{or_assoc}
use native.Mathlib.Decide.{dec_lt}
use borrow.Author.Tests.{not-false}
use Rattle.cells.specs.Any.{any}

pub or_left : (a b : Bool) → (a || b) ≡ false → a ≡ false
or_left true b h = h
or_left false b h = refl

pub or_right : (a b : Bool) → (a || b) ≡ false → b ≡ false
or_right true b h = absurd (let z : ◌≡◌ {A = Bool} true false = h in let y : ◌≡◌ {A = ℕ} 0 1 = cc in omega arith)
or_right false b h = h

pub or_yes : (a b : Bool) → b ≡ true → (a || b) ≡ true
or_yes true b h = refl
or_yes false b h = h

module _ (f : ℕ → Bool) where
  pub any_none : (n : ℕ) → ((t : ℕ) → t < n → f t ≡ false) → any n f ≡ false
  unfolding any
  any_none zero h = refl
  any_none (suc n) h = rw (any_none n (λ t l. h t (omega arith))) (h n (omega arith))

  -- place after place: none yet, or one found
  pub any_next : (i : ℕ) → any i f ≡ false → f i ≡ false → any (i + 1) f ≡ false
  unfolding any
  any_next i h e = rw (add-one i, h) e

  pub any_at : (n : ℕ) → any n f ≡ false → (t : ℕ) → t < n → f t ≡ false
  unfolding any
  any_at zero h t l = absurd (omega arith)
  any_at (suc n) h t l = go (any_at n (or_left (any n f) (f n) h) t) (dec_lt t n)
    where
      go : (t < n → f t ≡ false) → Dec (t < n) → f t ≡ false
      go ih (yes k) = ih k
      go ih (no k) =
          let e : t ≡ n = omega arith in
          rw e (or_right (any n f) (f n) h)

  pub any_split : (m n : ℕ) → any (m + n) f ≡ (any m f || any n (λ t. f (m + t)))
  unfolding any
  any_split m zero = rw (add-zero m) (sym (or_none (any m f)))
    where
      or_none : (b : Bool) → (b || false) ≡ b
      or_none true = refl
      or_none false = refl
  any_split m (suc n) =
      let e : m + suc n ≡ suc (m + n) = omega arith in
      rw (e, any_split m n) (or_assoc (any m f) (any n (λ t. f (m + t))) (f (m + n)))

pub any_cong : (f g : ℕ → Bool) (n : ℕ) → ((t : ℕ) → t < n → f t ≡ g t) → any n f ≡ any n g
unfolding any
any_cong f g zero h = refl
any_cong f g (suc n) h = ap₂ (λ (a b : Bool). a || b) (any_cong f g n (λ t l. h t (omega arith))) (h n (omega arith))

-- what holds somewhere below m does so below what is more
pub any_more : (f : ℕ → Bool) (m n : ℕ) → m ≤ n → any m f ≡ true → any n f ≡ true
any_more f m n l h =
    let e : n ≡ m + (n - m) = omega arith in
    rw (e, any_split f m (n - m), h)

pub any_found : (f : ℕ → Bool) (i n : ℕ) → i < n → f i ≡ true → any n f ≡ true
unfolding any
any_found f i n l e = any_more f (i + 1) n (omega arith) (rw (add-one i) (or_yes (any i f) (f i) e))

-- two functions that are the same at all places below n, where antt computes that
pub below : (f g : ℕ → ℕ) (n : ℕ) → any n (λ t. not (eqb (f t) (g t))) ≡ false → (t : ℕ) → t < n → f t ≡ g t
below f g n h t l = eqb-true (f t) (g t) (not-false (eqb (f t) (g t)) (any_at (λ t. not (eqb (f t) (g t))) n h t l))
