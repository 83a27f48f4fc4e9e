-- The tests of the cells of a buffer, and of two. Assumes nothing.
use Rattle.std.specs.Prelude.{Bool, List, [], ◌∷◌, ◌++◌, ℕ, ◌*◌}
use Rattle.cells.specs.Fault.{stray_in, padded_in, stray_first, padded_first}
use Rattle.buffers.specs.Buffer.{planes, unit, sign, cell}
use Rattle.buffers.specs.Fault.{stray, padded, stray_at, padded_at}
use Rattle.requests.specs.declared.Size.{Size}
use Rattle.requests.specs.declared.Buffer.{Buffer}
use Rattle.requests.specs.declared.Place.{Place}
use Rattle.requests.specs.Answers.{Tests, placed}

-- row i of a buffer of c columns holds sign without unit in a real column, and a padding bit
abbrev pub row_strays : ℕ → List ℕ → ℕ → Bool
row_strays c ws i = stray_in (unit c ws i) (sign c ws i) c

abbrev pub row_pads : ℕ → List ℕ → ℕ → Bool
row_pads c ws i = padded_in (cell c ws i) c (64 * planes c)

-- the first column of either, in a row that has one
abbrev pub first_stray : ℕ → List ℕ → ℕ → ℕ
first_stray c ws i = stray_first (unit c ws i) (sign c ws i) c

abbrev pub first_padding : ℕ → List ℕ → ℕ → ℕ
first_padding c ws i = padded_first (cell c ws i) c (64 * planes c)

-- a row and a column of a buffer
abbrev pub place_at : Buffer → ℕ × ℕ → Place
place_at n at = record { buffer = n; row = at.0; column = at.1 }

-- in one buffer any 5 comes before any 6, each with the first place of its own
unfoldable pub faults : Buffer → Size → List ℕ → Tests
faults n s ws =
    (stray s.rows s.columns ws, placed 5 (place_at n (stray_at s.rows s.columns ws)))
    ∷ (padded s.rows s.columns ws, placed 6 (place_at n (padded_at s.rows s.columns ws)))
    ∷ []

-- of two buffers, the first one's come first
abbrev pub pair_faults : Buffer → Buffer → Size → Size → List ℕ → List ℕ → Tests
pair_faults n m x y a b = faults n x a ++ faults m y b

-- the tests of one buffer with their numbers alone, where no place is answered
abbrev pub fault_numbers : Size → List ℕ → Tests
fault_numbers s ws = (stray s.rows s.columns ws, 5) ∷ (padded s.rows s.columns ws, 6) ∷ []
