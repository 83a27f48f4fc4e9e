-- One stage of transposing 64 words. Assumes nothing.
use Rattle.std.specs.Prelude.{◌≡◌, List, ℕ, ◌+◌, ◌*◌, ◌/◌, ◌%◌, ◌^◌, ◌≤◌, ◌<◌, length, get_or}
use Rattle.std.specs.Int.Bits.{bit_and, bit_xor}

-- where the bits of x, h places higher, and those of y differ, and the mask m has a bit
unfoldable pub apart : ℕ → ℕ → ℕ → ℕ → ℕ
apart h m x y = bit_and (bit_xor (x / 2 ^ h) y) m

-- what x and y become
unfoldable pub lower : ℕ → ℕ → ℕ → ℕ → ℕ
lower h m x y = bit_xor x (apart h m x y * 2 ^ h % 2 ^ 64)

unfoldable pub upper : ℕ → ℕ → ℕ → ℕ → ℕ
upper h m x y = bit_xor y (apart h m x y)

-- the words x + j and x + h + j, for j below n, have exchanged bits, and every other word is as it was
pub record Pairs (h m x n : ℕ) (old new : List ℕ) : Type 0 where
  pub long : length new ≡ length old
  pub first : (j : ℕ) → j < n → get_or new (x + j) 0 ≡ lower h m (get_or old (x + j) 0) (get_or old (x + h + j) 0)
  pub second : (j : ℕ) → j < n → get_or new (x + h + j) 0 ≡ upper h m (get_or old (x + j) 0) (get_or old (x + h + j) 0)
  pub before : (k : ℕ) → k < x → get_or new k 0 ≡ get_or old k 0
  pub between : (k : ℕ) → x + n ≤ k → k < x + h → get_or new k 0 ≡ get_or old k 0
  pub after : (k : ℕ) → x + h + n ≤ k → get_or new k 0 ≡ get_or old k 0

-- so have those of the first n parts of 2 h words, and the words after them are as they were
pub record Stage (h m n : ℕ) (old new : List ℕ) : Type 0 where
  pub long : length new ≡ length old
  pub first : (k j : ℕ) → k < n → j < h → get_or new (k * (h + h) + j) 0 ≡ lower h m (get_or old (k * (h + h) + j) 0) (get_or old (k * (h + h) + h + j) 0)
  pub second : (k j : ℕ) → k < n → j < h → get_or new (k * (h + h) + h + j) 0 ≡ upper h m (get_or old (k * (h + h) + j) 0) (get_or old (k * (h + h) + h + j) 0)
  pub after : (i : ℕ) → n * (h + h) ≤ i → get_or new i 0 ≡ get_or old i 0
