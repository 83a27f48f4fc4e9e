-- Sums, which places hold a digit, and how many do. Assumes nothing.
use Rattle.std.specs.Prelude.{ℕ, zero, suc, ◌+◌, ◌*◌}
use Rattle.cells.specs.Bit.{bit, word_of}
use Rattle.cells.specs.Pair.{digit}

-- f s + f (s + 1) + .., n terms
unfoldable pub sum : ℕ → ℕ → (ℕ → ℕ) → ℕ
sum s zero f = 0
sum s (suc n) f = f s + sum (suc s) n f

-- 1 where the two digits are the same, and 0 elsewhere
unfoldable pub is : ℕ → ℕ → ℕ
is zero zero = 1
is zero (suc n) = 0
is (suc m) zero = 0
is (suc m) (suc n) = is m n

-- the number with a bit for each d in the columns s, .. s + w - 1 of a row of digits: bit 0 is column s
unfoldable pub bits_of : ℕ → (ℕ → ℕ) → ℕ → ℕ → ℕ
bits_of d row s w = word_of (λ i. is (row (s + i)) d) w

-- how many of the 64 places that the mask m has hold the digit d
unfoldable pub count : ℕ → ℕ → ℕ → ℕ → ℕ
count d u s m = sum 0 64 (λ t. bit m t * is (digit u s t) d)
