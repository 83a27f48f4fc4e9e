-- A word as n lanes of equally many bits, lane 0 lowest: which lanes hold a bit, and how many do. Lanes have j + 1 bits. Assumes nothing.
use Rattle.std.specs.Prelude.{◌≡◌, ℕ, zero, suc, ◌+◌, ◌-◌, ◌*◌, ◌/◌, ◌%◌, ◌^◌, min, bit_and, bit_or}
use Rattle.cells.specs.declared.lanes.Lanes.{Lanes}

-- the bits of n lanes below the top one of each
unfoldable pub low_of : ℕ → ℕ → ℕ
low_of j zero = 0
low_of j (suc n) = low_of j n * 2 ^ suc j + (2 ^ j - 1)

-- the top bit of each
unfoldable pub top_of : ℕ → ℕ → ℕ
top_of j zero = 0
top_of j (suc n) = top_of j n * 2 ^ suc j + 2 ^ j

-- the top bit of each lane that is not 0: what is below the top bit carries into it
unfoldable pub some_of : ℕ → ℕ → ℕ → ℕ
some_of x low top = bit_and (bit_or (bit_and x low + low) x) top

-- how many of the first n lanes of k bits are not 0
unfoldable pub filled : ℕ → ℕ → ℕ → ℕ
filled k zero x = 0
filled k (suc n) x = min 1 (x % 2 ^ k) + filled k n (x / 2 ^ k)

-- n lanes of j + 1 bits
pub record InLanes (j n : ℕ) (lanes : Lanes) : Type 0 where
  pub low : lanes.low ≡ low_of j n
  pub top : lanes.top ≡ top_of j n
  pub put : lanes.put ≡ min 1 j
