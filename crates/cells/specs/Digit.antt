-- The field of three elements on the digits 0, 1 and 2, where 2 is -1; and the two bits of a digit: 0 is 00, 1 is unit only, 2 is both.
-- Assumes nothing.
use Rattle.std.specs.Prelude.{ℕ, ◌+◌, ◌-◌, ◌*◌, ◌%◌, min}

-- a plus the digit d times b: the sum for d = 1, the difference for d = 2
unfoldable pub combine : ℕ → ℕ → ℕ → ℕ
combine d a b = (a + d * b) % 3

unfoldable pub neg3 : ℕ → ℕ
neg3 a = 2 * a % 3

unfoldable pub mul3 : ℕ → ℕ → ℕ
mul3 a b = a * b % 3

unfoldable pub unit_of : ℕ → ℕ
unit_of d = min d 1

unfoldable pub sign_of : ℕ → ℕ
sign_of d = min (d - 1) 1

-- a matrix gives the digit in row i and column j; its sizes stand beside it, and what it gives outside them plays no part
abbrev pub Matrix : Type 0
Matrix = ℕ → ℕ → ℕ
