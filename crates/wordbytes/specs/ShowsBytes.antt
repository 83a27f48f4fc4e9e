-- What demand 2 says of a result in bytes. Assumes nothing.
use Rattle.std.specs.Prelude.{◌≡◌, List, ℕ, ◌*◌, ◌<◌, length, get_or}
use Rattle.cells.specs.Digit.{Matrix}
use Rattle.buffers.specs.Buffer.{words, cell, Legal}
use Rattle.wordbytes.specs.Bytes.{words_in}

-- each element is a byte, as in every slice of bytes
abbrev pub AllBytes : List ℕ → Type 0
AllBytes bs = (n : ℕ) → get_or bs n 0 < 256

-- bytes of the exact length whose words are legal and hold M, and the only ones
pub record ShowsBytes (r c : ℕ) (M : Matrix) (bs : List ℕ) : Type 0 where
  pub long : length bs ≡ 8 * words r c
  pub legal : Legal r c (words_in bs)
  pub digits : (i j : ℕ) → i < r → j < c → cell c (words_in bs) i j ≡ M i j
  pub only : (vs : List ℕ) → AllBytes vs → length vs ≡ 8 * words r c → Legal r c (words_in vs) → ((i j : ℕ) → i < r → j < c → cell c (words_in vs) i j ≡ M i j) → vs ≡ bs
