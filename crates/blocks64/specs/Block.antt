-- Words at equal distances, transposed from slice to slice. Assumes nothing.
use Rattle.std.specs.Prelude.{◌≡◌, List, ℕ, ◌+◌, ◌*◌, ◌≤◌, ◌<◌, length, get_or}
use Rattle.cells.specs.Bit.{bit, word_of}

-- the n words at x, x + w, .. lie within a slice of that length
pub record Spaced (x w n long : ℕ) : Type 0 where
  pub few : n ≤ 64
  pub near : w ≤ 32
  pub start : x ≤ 32768
  pub room : (t : ℕ) → t < n → x + t * w < long

-- bit t of each of the n words at x, x + w, ..
unfoldable pub transposed_word : List ℕ → ℕ → ℕ → ℕ → ℕ → ℕ
transposed_word a x w n t = word_of (λ s. bit (get_or a (x + s * w) 0) t) n

-- the words at x, x + w, .. are those of f, for n words, and every other word is as it was
pub record Spread (f : ℕ → ℕ) (x w n : ℕ) (old new : List ℕ) : Type 0 where
  pub long : length new ≡ length old
  pub spread : (t : ℕ) → t < n → get_or new (x + t * w) 0 ≡ f t
  pub kept : (k : ℕ) → ((t : ℕ) → t < n → k ≡ x + t * w → ⊥) → get_or new k 0 ≡ get_or old k 0
