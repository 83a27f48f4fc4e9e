-- The faults of a row of c columns whose unit words start at word x, and its sign words q words later. Assumes nothing.
use Rattle.std.specs.Prelude.{◌≡◌, Bool, true, false, List, ℕ, ◌+◌, ◌*◌}
use Rattle.cells.specs.Fault.{stray_in, padded_in, stray_first, padded_first}
use Rattle.buffers.specs.Buffer.{bit_at}
use Rattle.rows.specs.Row.{column}

-- a real column holds sign without unit
unfoldable pub stray_row : List ℕ → ℕ → ℕ → ℕ → Bool
stray_row ws x q c = stray_in (bit_at ws x) (bit_at ws (x + q)) c

-- a padding bit is set, in either plane
unfoldable pub padded_row : List ℕ → ℕ → ℕ → ℕ → Bool
padded_row ws x q c = padded_in (column ws x q) c (64 * q)

-- the first column of either, where there is one
unfoldable pub stray_column : List ℕ → ℕ → ℕ → ℕ → ℕ
stray_column ws x q c = stray_first (bit_at ws x) (bit_at ws (x + q)) c

unfoldable pub padded_column : List ℕ → ℕ → ℕ → ℕ → ℕ
padded_column ws x q c = padded_first (column ws x q) c (64 * q)

-- the word w, in which faults are gathered, is 0 exactly where there are none
pub record Found (w : ℕ) (b : Bool) : Type 0 where
  pub none : w ≡ 0 → b ≡ false
  pub some : (w ≡ 0 → ⊥) → b ≡ true
