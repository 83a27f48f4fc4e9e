-- The two faults that a buffer of the right length can have, as tests, and the first place of each. Assumes nothing.
use Rattle.std.specs.Prelude.{◌≡◌, Bool, true, false, List, ℕ, ◌*◌, ◌≤◌, ◌<◌}
use Rattle.cells.specs.Any.{any, least}
use Rattle.cells.specs.Fault.{stray_in, padded_in, stray_first, padded_first}
use Rattle.buffers.specs.Buffer.{planes, unit, sign, cell}

-- in some row a real column holds sign without unit
unfoldable pub stray : ℕ → ℕ → List ℕ → Bool
stray r c ws = any r (λ i. stray_in (unit c ws i) (sign c ws i) c)

-- in some row a padding bit is set
unfoldable pub padded : ℕ → ℕ → List ℕ → Bool
padded r c ws = any r (λ i. padded_in (cell c ws i) c (64 * planes c))

-- row and column of the first place, by row and then column: the first of r rows that has one, and that row's first column
abbrev pub place_in : ℕ → (ℕ → Bool) → (ℕ → ℕ) → ℕ × ℕ
place_in r has column = (least r has, column (least r has))

unfoldable pub stray_at : ℕ → ℕ → List ℕ → ℕ × ℕ
stray_at r c ws = place_in r (λ i. stray_in (unit c ws i) (sign c ws i) c) (λ i. stray_first (unit c ws i) (sign c ws i) c)

-- the column is the bit's position, at or beyond the column count
unfoldable pub padded_at : ℕ → ℕ → List ℕ → ℕ × ℕ
padded_at r c ws = place_in r (λ i. padded_in (cell c ws i) c (64 * planes c)) (λ i. padded_first (cell c ws i) c (64 * planes c))

-- what is meant by it: of the places in r rows and in the columns from `from` to below `to`, it is the first that is bad, by row and then column
pub record FirstBad (r from to : ℕ) (bad : ℕ → ℕ → Bool) (at : ℕ × ℕ) : Type 0 where
  pub row : at.0 < r
  pub begins : from ≤ at.1
  pub ends : at.1 < to
  pub holds : bad at.0 at.1 ≡ true
  pub above : (i j : ℕ) → i < at.0 → from ≤ j → j < to → bad i j ≡ false
  pub before : (j : ℕ) → from ≤ j → j < at.1 → bad at.0 j ≡ false
