-- Numbers as hexadecimal digits, most significant first, and lines of them. Assumes nothing.
use Rattle.std.specs.Prelude.{Bool, not, ◌||◌, List, ℕ, zero, suc, ◌+◌, ◌-◌, ◌*◌, ltb, eqb, length, get_or}
use Rattle.cells.specs.Any.{any}
use Rattle.buffers.specs.Buffer.{tab}
use Rattle.hexadecimal.specs.Digit.{digit_of, byte_of, nibble}

-- the n digits of v, the highest first
unfoldable pub hex_of : ℕ → ℕ → List ℕ
hex_of n v = tab n (λ k. byte_of (nibble v (n - suc k)))

-- the number that the n digits from place x on say
unfoldable pub value_of : List ℕ → ℕ → ℕ → ℕ
value_of line x zero = 0
value_of line x (suc n) = 16 * value_of line x n + digit_of (get_or line (x + n) 0)

-- one of the first n bytes is no digit
unfoldable pub undigit : List ℕ → ℕ → Bool
undigit line n = any n (λ k. ltb 15 (digit_of (get_or line k 0)))

-- not exactly n digits and then byte 10
unfoldable pub unframed : List ℕ → ℕ → Bool
unframed line n = not (eqb (length line) (n + 1)) || (undigit line n || not (eqb (get_or line n 0) 10))
