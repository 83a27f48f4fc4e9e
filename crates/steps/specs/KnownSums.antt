-- The known sums of document 01 that are to be proved (those with a star), as one table. Assumes nothing.
use Rattle.std.specs.Prelude.{ℕ, zero, suc, ◌+◌, ◌-◌, ◌*◌, ◌/◌, ◌≡◌, List, [], ◌∷◌, map, get_or}
use Rattle.cells.specs.Digit.{Matrix, combine}
use Rattle.steps.specs.Matrix.{schoolbook}
use Rattle.steps.specs.Step.{State, opening}
use Rattle.steps.specs.StepList.{block_width, steps}
use Rattle.steps.specs.Count.{quote, total}
use Rattle.steps.specs.Turn.{after}

-- a matrix written out by its rows
unfoldable pub written : List (List ℕ) → Matrix
written rows i j = get_or (get_or rows i []) j 0

unfoldable pub listed : {T : Type 0} → ℕ → ℕ → (ℕ → T) → List T
listed s zero f = []
listed s (suc n) f = f s ∷ listed (suc s) n f

-- the first r rows and c columns of a matrix, written out
unfoldable pub shown : ℕ → ℕ → Matrix → List (List ℕ)
shown r c M = listed 0 r (λ i. listed 0 c (M i))

unfoldable pub sample_a : Matrix
sample_a = written ((1 ∷ 2 ∷ 0 ∷ []) ∷ (0 ∷ 2 ∷ 1 ∷ []) ∷ [])

unfoldable pub sample_b : Matrix
sample_b = written ((1 ∷ 0 ∷ []) ∷ (2 ∷ 1 ∷ []) ∷ (1 ∷ 1 ∷ []) ∷ [])

-- the sample at width 2, after j steps
unfoldable pub sample_after : ℕ → State
sample_after j = after sample_b (steps 2 3 2 sample_a) opening j

pub record KnownSums : Type 0 where
  pub 1+1 : combine 1 1 1 ≡ 2
  pub 1+2 : combine 1 1 2 ≡ 0
  pub 2+2 : combine 1 2 2 ≡ 1
  pub 0-1 : combine 2 0 1 ≡ 2
  pub 2-1 : combine 2 2 1 ≡ 1
  pub product : shown 2 2 (schoolbook 3 sample_a sample_b) ≡ (2 ∷ 2 ∷ []) ∷ (2 ∷ 0 ∷ []) ∷ []
  pub totals : map (λ k. total 2 3 k sample_a) (1 ∷ 2 ∷ 3 ∷ 8 ∷ []) ≡ 7 ∷ 8 ∷ 11 ∷ 11 ∷ []
  pub product_after_4 : shown 2 2 (sample_after 4).product ≡ (1 ∷ 0 ∷ []) ∷ (0 ∷ 0 ∷ []) ∷ []
  pub product_after_5 : shown 2 2 (sample_after 5).product ≡ (2 ∷ 2 ∷ []) ∷ (0 ∷ 0 ∷ []) ∷ []
  pub finished_table : shown 4 2 (sample_after (total 2 3 2 sample_a)).table ≡ (0 ∷ 0 ∷ []) ∷ (1 ∷ 1 ∷ []) ∷ (2 ∷ 1 ∷ []) ∷ (0 ∷ 1 ∷ []) ∷ []
  pub quoted : quote 1 66 5 ≡ 431
  -- block 12 of these is the columns 60 to 64; column 60 lies in word 0, column 64 in word 1
  pub first_column : 12 * 5 ≡ 60
  pub last_column : 60 + block_width 66 5 12 - 1 ≡ 64
  pub crossing : (60 / 64 ≡ 0) × (64 / 64 ≡ 1)
