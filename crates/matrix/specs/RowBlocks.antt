-- Rows of a transpose that are made in blocks of 64, a pair of words of each at a time. Assumes nothing.
use Rattle.std.specs.Prelude.{◌≡◌, List, ℕ, ◌+◌, ◌-◌, ◌*◌, ◌<◌, min, length, get_or}
use Rattle.cells.specs.Pair.{WordPair}
use Rattle.buffers.specs.Buffer.{cell}
use Rattle.matrix.specs.Gathered.{up_to}

-- the digits of column j in the rows from row 64 p on
unfoldable pub column : ℕ → ℕ → List ℕ → ℕ → ℕ → ℕ → ℕ
column r c a j p = up_to (min 64 (r - 64 * p)) (λ t. cell c a (64 * p + t) j)

-- pair p of each of the m rows from word x on holds the digits f; all other pairs, and the words before x, are as they were
pub record WordMade (f : ℕ → ℕ → ℕ) (x q p m : ℕ) (old new : List ℕ) : Type 0 where
  pub long : length new ≡ length old
  pub made : (t : ℕ) → t < m → WordPair (f t) (get_or new (x + t * (2 * q) + p) 0) (get_or new (x + t * (2 * q) + q + p) 0)
  pub before : (n : ℕ) → n < x → get_or new n 0 ≡ get_or old n 0
  pub units : (t s : ℕ) → s < q → (s ≡ p → ⊥) → get_or new (x + t * (2 * q) + s) 0 ≡ get_or old (x + t * (2 * q) + s) 0
  pub signs : (t s : ℕ) → s < q → (s ≡ p → ⊥) → get_or new (x + t * (2 * q) + q + s) 0 ≡ get_or old (x + t * (2 * q) + q + s) 0

-- the first n pairs of each of the m rows from word x on hold the digits f, and the words before x are as they were
pub record BlockMade (f : ℕ → ℕ → ℕ → ℕ) (x q m n : ℕ) (old new : List ℕ) : Type 0 where
  pub long : length new ≡ length old
  pub made : (t p : ℕ) → t < m → p < n → WordPair (f t p) (get_or new (x + t * (2 * q) + p) 0) (get_or new (x + t * (2 * q) + q + p) 0)
  pub before : (k : ℕ) → k < x → get_or new k 0 ≡ get_or old k 0
