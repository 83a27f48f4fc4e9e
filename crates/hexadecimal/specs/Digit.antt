-- A hexadecimal digit: its byte, its value, and its place in a number. Assumes nothing.
use Rattle.std.specs.Prelude.{cond, ℕ, ◌+◌, ◌-◌, ◌*◌, ◌/◌, ◌%◌, ◌^◌, ltb}

-- the value of a byte: 48 to 57 are 0 to 9, 97 to 102 are 10 to 15, and any other has none, said by 16
unfoldable pub digit_of : ℕ → ℕ
digit_of b = cond (ltb b 48) 16 (cond (ltb b 58) (b - 48) (cond (ltb b 97) 16 (cond (ltb b 103) (b - 87) 16)))

-- the byte of a value below 16
unfoldable pub byte_of : ℕ → ℕ
byte_of d = cond (ltb d 10) (48 + d) (87 + d)

-- digit t of v, the lowest first
unfoldable pub nibble : ℕ → ℕ → ℕ
nibble v t = v / 2 ^ (4 * t) % 16
