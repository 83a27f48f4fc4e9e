-- The tests of a request that makes a matrix of two of the same size and a digit. Assumes nothing.
use Rattle.std.specs.Prelude.{Bool, not, ◌||◌, List, ◌∷◌, ℕ, eqb, ltb, length}
use Rattle.requests.specs.declared.Size.{Size}
use Rattle.requests.specs.declared.Buffer.TheVariants.{First, Second}
use Rattle.requests.specs.Answers.{Tests}
use Rattle.requests.specs.Sizes.{over, unfit}
use Rattle.requests.specs.Faults.{pair_faults}

-- the row counts or the column counts differ
unfoldable pub unequal : Size → Size → Bool
unequal x y = not (eqb x.rows y.rows) || not (eqb x.columns y.columns)

-- l, m and n words: one of the three is not a matrix's
unfoldable pub unfits : Size → Size → ℕ → ℕ → ℕ → Bool
unfits x y l m n = unfit x l || (unfit y m || unfit x n)

-- n is how many words there are for the result; a digit above 2 has no place
unfoldable pub pair_tests : Size → Size → ℕ → List ℕ → List ℕ → ℕ → Tests
pair_tests x y d a b n = (over x || over y, 1) ∷ (unequal x y, 2) ∷ (unfits x y (length a) (length b) n, 4) ∷ (ltb 2 d, 8) ∷ pair_faults First Second x y a b
