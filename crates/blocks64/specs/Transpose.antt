-- A block of 64 words of 64 bits, transposed. Assumes nothing.
use Rattle.std.specs.Prelude.{◌≡◌, List, ℕ, ◌<◌, length, get_or}
use Rattle.cells.specs.Bit.{bit}

pub record Transposed (old new : List ℕ) : Type 0 where
  pub long : length new ≡ length old
  pub transposed : (i t : ℕ) → i < 64 → t < 64 → bit (get_or new i 0) t ≡ bit (get_or old t 0) i
