-- A test that holds somewhere below n, and the first place where it does. Assumes nothing.
use Rattle.std.specs.Prelude.{◌≡◌, ℕ, zero, suc, ◌<◌, Bool, true, false, cond, ◌||◌}

unfoldable pub any : ℕ → (ℕ → Bool) → Bool
any zero f = false
any (suc n) f = any n f || f n

-- the first place below n where it holds, and n where there is none
unfoldable pub least : ℕ → (ℕ → Bool) → ℕ
least zero f = 0
least (suc n) f = cond (f 0) 0 (suc (least n (λ t. f (suc t))))

-- it holds at i, which lies below n, and nowhere before
pub record First (n : ℕ) (f : ℕ → Bool) (i : ℕ) : Type 0 where
  pub within : i < n
  pub holds : f i ≡ true
  pub none : any i f ≡ false
