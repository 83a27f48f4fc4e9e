-- What multiply leaves of a buffer. Assumes nothing.
use Rattle.std.specs.Prelude.{◌≡◌, List, ℕ, ◌≤◌, ◌<◌, length, take, drop}
use Rattle.requests.specs.Exact.{None, Gives}
use Rattle.texts.specs.Multiply.{multiply_tests, refusal, product_in, multiply_text}

-- the product's frames and its total exactly when no test holds, and a refusal line exactly when its number is given
pub record Prints (text printed : List ℕ) : Type 0 where
  pub done : (printed ≡ product_in text → None (multiply_tests text)) × (None (multiply_tests text) → printed ≡ product_in text)
  pub refused : (k : ℕ) → (k ≡ 0 → ⊥) → k < 256 → (printed ≡ refusal k → Gives k (multiply_tests text)) × (Gives k (multiply_tests text) → printed ≡ refusal k)

-- n bytes from the beginning of the buffer are what is printed, and what comes after them stays; without room for it nothing is written
pub record Told (text out : List ℕ) (n : ℕ) (o : List ℕ) : Type 0 where
  pub prints : length (multiply_text text) ≤ length out → Prints text (take n o)
  pub long : length (multiply_text text) ≤ length out → n ≡ length (multiply_text text)
  pub stays : length (multiply_text text) ≤ length out → drop n o ≡ drop n out
  pub no_room : length out < length (multiply_text text) → (n ≡ 0) × (o ≡ out)
