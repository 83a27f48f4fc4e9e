-- A matrix whose rows are made one after another, each by a call of what is lent. Assumes nothing.
use Rattle.std.specs.Prelude.{◌≡◌, List, ℕ, ◌+◌, ◌*◌, ◌<◌, length, get_or}
use denote.Ref.{MutBor}
use denote.Param.Members.{Shared}
use Rattle.cells.specs.Pair.{WordPair}
use Rattle.buffers.specs.Buffer.{planes, words}
use Rattle.rows.specs.Row.{Made}

-- the first r rows hold the digits f, row by row, in the only words that can
pub record RowsHold (f : ℕ → ℕ → ℕ → ℕ) (r q long : ℕ) (new : List ℕ) : Type 0 where
  pub long_is : length new ≡ long
  pub holds : (i p : ℕ) → i < r → p < q → WordPair (f i p) (get_or new (i * (2 * q) + p) 0) (get_or new (i * (2 * q) + q + p) 0)

-- a call is lent the matrix, the words of a plane, and the word at which a row begins
module _ {F : Type 0} (g : Shared F (MutBor (List ℕ) × (ℕ × (ℕ × Unit {0}))) (Unit {0} × (MutBor (List ℕ) × Unit {0}))) (make : F) (r c : ℕ) where
  -- it may be called for each row
  abbrev pub AcceptsRows : Type 0
  AcceptsRows = (i : ℕ) (old : MutBor (List ℕ)) → i < r → length old.now ≡ words r c → g.pre make (old, (planes c, (i * (2 * planes c), tt)))

  -- .. and makes of row i the digits f i
  abbrev pub MakesRows : (ℕ → ℕ → ℕ → ℕ) → Type 0
  MakesRows f =
      (i : ℕ) (old new : MutBor (List ℕ)) → i < r → length old.now ≡ words r c
      → g.post make (old, (planes c, (i * (2 * planes c), tt))) (tt, (new, tt)) → Made (f i) (i * (2 * planes c)) (planes c) (planes c) old.now new.now
