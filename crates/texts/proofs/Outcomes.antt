-- Two outcomes that satisfy the statement of multiply coincide. Assumes nothing.
use mathlib.Core.Path.{◌≡◌}
use mathlib.Core.List.{List}
use Prim.Native.Nat.{ℕ}
use Rattle.requests.proofs.WordLaws.{words_coincide}
use Rattle.texts.specs.Multiply.{multiply_means}

pub multiply_one : (text out : List ℕ) (n n' : ℕ) (o o' : List ℕ) → ◌≡◌ {A = ℕ × List ℕ} (n, o) (multiply_means text out) → ◌≡◌ {A = ℕ × List ℕ} (n', o') (multiply_means text out) → (n ≡ n') × (o ≡ o')
multiply_one text out n n' o o' p q = words_coincide (multiply_means text out) n n' o o' p q
