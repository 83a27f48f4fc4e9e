-- What demand 1 says of a request's answer. Assumes nothing.
use Rattle.std.specs.Prelude.{◌≡◌, Bool, true, false, [], ◌∷◌, ◌++◌, ℕ}
use Rattle.requests.specs.Answers.{Tests}

-- no test holds
abbrev pub None : Tests → Type 0
None [] = Unit {0}
None ((t, n) ∷ ts) = (t ≡ false) × None ts

-- a test with the number n holds, and none before it does
pub record Gives (n : ℕ) (ts : Tests) : Type 0 where
  pub before : Tests
  pub test : Bool
  pub after : Tests
  pub split : ts ≡ before ++ ((test, n) ∷ after)
  pub none : None before
  pub holds : test ≡ true

-- a number is given exactly when its test is the first that holds, and done exactly when no test holds
pub record Numbered (ts : Tests) (n : ℕ) : Type 0 where
  pub refused : (k : ℕ) → (k ≡ 0 → ⊥) → (n ≡ k → Gives k ts) × (Gives k ts → n ≡ k)
  pub done : (n ≡ 0 → None ts) × (None ts → n ≡ 0)

-- what a host sees after a request: its number; refused, what was there is left; done, what is left is right
pub record Seen {S : Type 0} (ts : Tests) (old : S) (Right : S → Type 0) (n : ℕ) (s : S) : Type 0 where
  pub numbered : Numbered ts n
  pub keeps : (n ≡ 0 → ⊥) → s ≡ old
  pub right : n ≡ 0 → Right s

-- the same where just one thing is right
abbrev pub Exact : {S : Type 0} → Tests → S → S → ℕ → S → Type 0
Exact ts old new = Seen ts old (λ s. s ≡ new)
