-- Words as bytes: each word is eight bytes, lowest byte first. Assumes nothing.
use Rattle.std.specs.Prelude.{List, ℕ, zero, suc, ◌+◌, ◌*◌, ◌/◌, ◌%◌, ◌^◌, length, get_or}
use Rattle.buffers.specs.Buffer.{tab}

-- byte k of a word, the lowest first
unfoldable pub byte_of : ℕ → ℕ → ℕ
byte_of w k = w / 2 ^ (8 * k) % 256

-- the number that the n bytes from byte x on say, the lowest first
unfoldable pub value_of : List ℕ → ℕ → ℕ → ℕ
value_of bs x zero = 0
value_of bs x (suc n) = get_or bs x 0 + 256 * value_of bs (suc x) n

-- the words in a buffer of bytes, and the bytes of a buffer of words
unfoldable pub words_in : List ℕ → List ℕ
words_in bs = tab (length bs / 8) (λ p. value_of bs (8 * p) 8)

unfoldable pub bytes_of : List ℕ → List ℕ
bytes_of ws = tab (8 * length ws) (λ n. byte_of (get_or ws (n / 8) 0) (n % 8))
