-- A row as a part of a slice of words: pair p of the row at word x is the unit word x + p and the sign word x + q + p, where q is the
-- distance between its planes. What a row operation leaves of the whole slice. Assumes nothing.
use Rattle.std.specs.Prelude.{◌≡◌, List, ◌⊎◌, ℕ, ◌+◌, ◌/◌, ◌%◌, ◌≤◌, ◌<◌, length, get_or}
use Rattle.cells.specs.declared.Cells.{Cells}
use Rattle.cells.specs.Pair.{digit, LegalPair, WordPair, Is}

-- the digit at place t of pair p of the row at word x
unfoldable pub digit_at : List ℕ → ℕ → ℕ → ℕ → ℕ → ℕ
digit_at ws x q p t = digit (get_or ws (x + p) 0) (get_or ws (x + q + p) 0) t

-- the digit in its column j, which is place j % 64 of pair j / 64
unfoldable pub column : List ℕ → ℕ → ℕ → ℕ → ℕ
column ws x q j = digit_at ws x q (j / 64) (j % 64)

-- the first n pairs of the row at word x are legal
unfoldable pub LegalRow : List ℕ → ℕ → ℕ → ℕ → Type 0
LegalRow ws x q n = (p : ℕ) → p < n → LegalPair (get_or ws (x + p) 0) (get_or ws (x + q + p) 0)

-- what an operation makes of one row, and of two
unfoldable pub of1 : (ℕ → ℕ) → ℕ → List ℕ → ℕ → ℕ → ℕ → ℕ
of1 op q a x p t = op (digit_at a x q p t)

unfoldable pub of2 : (ℕ → ℕ → ℕ) → ℕ → List ℕ → ℕ → List ℕ → ℕ → ℕ → ℕ → ℕ
of2 op q a x b y p t = op (digit_at a x q p t) (digit_at b y q p t)

-- the first n pairs of the row at word x hold the digits f, in the only words that can, and every other word is as it was
pub record Made (f : ℕ → ℕ → ℕ) (x q n : ℕ) (old new : List ℕ) : Type 0 where
  pub long : length new ≡ length old
  pub made : (p : ℕ) → p < n → WordPair (f p) (get_or new (x + p) 0) (get_or new (x + q + p) 0)
  pub before : (k : ℕ) → k < x → get_or new k 0 ≡ get_or old k 0
  pub between : (k : ℕ) → x + n ≤ k → k < x + q → get_or new k 0 ≡ get_or old k 0
  pub after : (k : ℕ) → x + q + n ≤ k → get_or new k 0 ≡ get_or old k 0

-- whatever a rule gives for the pairs of a row of q pairs holds the digits f
abbrev pub Gives : (ℕ → Cells → Type 0) → ℕ → (ℕ → ℕ → ℕ) → Type 0
Gives rule q f = (p : ℕ) (v : Cells) → p < q → rule p v → Is (f p) v

-- the digits from pair j on
abbrev pub from : (ℕ → ℕ → ℕ) → ℕ → ℕ → ℕ → ℕ
from f j p t = f (j + p) t

-- the n words from word x on are those of f, and every other word is as it was
pub record Written (f : ℕ → ℕ) (x n : ℕ) (old new : List ℕ) : Type 0 where
  pub long : length new ≡ length old
  pub written : (k : ℕ) → k < n → get_or new (x + k) 0 ≡ f k
  pub before : (k : ℕ) → k < x → get_or new k 0 ≡ get_or old k 0
  pub after : (k : ℕ) → x + n ≤ k → get_or new k 0 ≡ get_or old k 0

-- n pairs of the row at word x lie within the slice, and are legal
pub record Readable (q n x : ℕ) (ws : List ℕ) : Type 0 where
  pub room : x + q + n ≤ length ws
  pub legal : LegalRow ws x q n

-- n pairs can be written at word x: they lie within the slice, and unit words do not reach sign words
pub record Writable (q n x : ℕ) (ws : List ℕ) : Type 0 where
  pub fits : n ≤ q
  pub room : x + q + n ≤ length ws

-- n pairs can be made in place at word x of t, of those at y of t and those at z of b: row y is row x itself or lies before it
pub record InPlace (q n x y z : ℕ) (t b : List ℕ) : Type 0 where
  pub fits : n ≤ q
  pub room : x + q + n ≤ length t
  pub first : Readable q n y t
  pub second : Readable q n z b
  pub apart : (y ≡ x) ⊎ (y + (q + q) ≤ x)
