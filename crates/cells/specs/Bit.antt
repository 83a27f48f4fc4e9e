-- The bits of a number, and the number of given bits. Assumes nothing.
use Rattle.std.specs.Prelude.{ℕ, zero, suc, ◌+◌, ◌*◌, ◌/◌, ◌%◌, ◌^◌}

-- the bit of weight 2 ^ t of w
unfoldable pub bit : ℕ → ℕ → ℕ
bit w t = w / 2 ^ t % 2

-- the number of n bits whose bit t is f t
unfoldable pub word_of : (ℕ → ℕ) → ℕ → ℕ
word_of f zero = 0
word_of f (suc n) = word_of (λ t. f (suc t)) n * 2 + f 0
