-- What `tally` answers: the zeros, ones and twos of a row, and whether it is balanced. Assumes nothing.
use Rattle.std.specs.Prelude.{Bool, false, ◌&&◌, List, [], ◌∷◌, Result, ℕ, eqb}
use Rattle.buffers.specs.Buffer.{cell}
use Rattle.rows.specs.Tally.{columns_with, tally_row}
use Rattle.requests.specs.declared.Reason.{Reason}
use Rattle.requests.specs.Answers.{word, held, answered}
use Rattle.matrix.specs.declared.tally.Tallied.{Tallied}
use Rattle.matrix.specs.Check.{check_tests}

-- zeros, ones and twos are equally many in the c columns of a row
unfoldable pub balanced : (ℕ → ℕ) → ℕ → Bool
balanced row c = eqb (columns_with 0 row c) (columns_with 1 row c) && eqb (columns_with 1 row c) (columns_with 2 row c)

abbrev pub no_tally : Tallied
no_tally = record { counts = 0 ∷ 0 ∷ 0 ∷ []; balanced = false }

-- what a tally answers: its word, and then its counts and whether it is balanced; refused, there is no tally, and zeros and no stand for it
abbrev pub tally_told : Result Tallied Reason → ℕ × (List ℕ × Bool)
tally_told r = (word r, ((held no_tally r).counts, (held no_tally r).balanced))

unfoldable pub tally_means : ℕ → List ℕ → ℕ × (List ℕ × Bool)
tally_means c a = answered (check_tests (record { rows = 1; columns = c }) a) (0 ∷ 0 ∷ 0 ∷ [], false) (tally_row (cell c a 0) c, balanced (cell c a 0) c)
