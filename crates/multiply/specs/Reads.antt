-- A text that was read into a buffer until its first fault, its end, or the buffer's. Assumes nothing.
use Rattle.std.specs.Prelude.{◌≡◌, false, List, ℕ, ◌-◌, ◌≤◌, ◌<◌, length, take}
use Rattle.texts.specs.Stops.{stops}

-- how many bytes were read, and how many of them the last read gave
pub record Reads (buffer : List ℕ) (bytes last : ℕ) : Type 0 where
  pub within : bytes ≤ length buffer
  pub part : last ≤ bytes
  -- before the last read there was no fault
  pub before : stops (take (bytes - last) buffer) ≡ false
  -- without a fault, and with room left, it ended because the last read gave nothing
  pub ended : stops (take bytes buffer) ≡ false → bytes < length buffer → last ≡ 0
