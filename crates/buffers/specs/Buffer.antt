-- A matrix of digits 0, 1, 2 as words of 64 bits: row after row, each row its unit words and then its sign words. Assumes nothing.
use Rattle.std.specs.Prelude.{◌≡◌, List, [], ◌∷◌, ◌++◌, ℕ, zero, suc, ◌+◌, ◌-◌, ◌*◌, ◌/◌, ◌%◌, ◌^◌, ◌≤◌, ◌<◌, min, length, get_or}
use Rattle.cells.specs.Bit.{bit, word_of}
use Rattle.cells.specs.Digit.{Matrix, unit_of, sign_of}

-- how many words hold a plane of a row of c columns, a row, and r rows
unfoldable pub planes : ℕ → ℕ
planes c = (c + 63) / 64

unfoldable pub wide : ℕ → ℕ
wide c = 2 * planes c

unfoldable pub words : ℕ → ℕ → ℕ
words r c = r * wide c

-- the bit of column j in the plane that starts at word x
unfoldable pub bit_at : List ℕ → ℕ → ℕ → ℕ
bit_at ws x j = bit (get_or ws (x + j / 64) 0) (j % 64)

unfoldable pub unit : ℕ → List ℕ → Matrix
unit c ws i j = bit_at ws (i * wide c) j

unfoldable pub sign : ℕ → List ℕ → Matrix
sign c ws i j = bit_at ws (i * wide c + planes c) j

-- the digit that a buffer of c columns holds
unfoldable pub cell : ℕ → List ℕ → Matrix
cell c ws i j = unit c ws i j + sign c ws i j

-- a buffer of r rows and c columns: exactly long, no sign without unit in a real column, and nothing in the padding
pub record Legal (r c : ℕ) (ws : List ℕ) : Type 0 where
  pub long : length ws ≡ words r c
  pub sound : (i j : ℕ) → i < r → j < c → sign c ws i j ≤ unit c ws i j
  pub clear : (i j : ℕ) → i < r → c ≤ j → j < 64 * planes c → cell c ws i j ≡ 0

-- each element is a word of 64 bits, as in every slice of words
abbrev pub Words : List ℕ → Type 0
Words ws = (n : ℕ) → get_or ws n 0 < 2 ^ 64

-- f 0, f 1, .. f (n - 1), as elements and as lists one after another
unfoldable pub tab : ℕ → (ℕ → ℕ) → List ℕ
tab zero f = []
tab (suc n) f = f 0 ∷ tab n (λ i. f (suc i))

unfoldable pub joined : ℕ → (ℕ → List ℕ) → List ℕ
joined zero f = []
joined (suc n) f = f 0 ++ joined n (λ i. f (suc i))

-- a plane of c columns whose bit at column j is f j: word p has a bit for each of its real columns
unfoldable pub plane : ℕ → (ℕ → ℕ) → List ℕ
plane c f = tab (planes c) (λ p. word_of (λ t. f (64 * p + t)) (min 64 (c - 64 * p)))

-- the buffer that holds M
unfoldable pub encode : ℕ → ℕ → Matrix → List ℕ
encode r c M = joined r (λ i. plane c (λ j. unit_of (M i j)) ++ plane c (λ j. sign_of (M i j)))
