-- A count as a buffer of one word, and the tests of a call that gives one from A's sizes and a width. Assumes nothing.
use Rattle.std.specs.Prelude.{◌≡◌, Bool, not, List, [], ◌∷◌, ℕ, ltb, eqb, length}
use Rattle.requests.specs.declared.Size.{Size}
use Rattle.requests.specs.Answers.{Tests}
use Rattle.requests.specs.Sizes.{over}
use Rattle.wordbytes.specs.Bytes.{words_in}
use Rattle.cface.specs.Limit.{above}

-- n bytes are not exactly a count's
unfoldable pub unfit_count : ℕ → Bool
unfit_count n = not (eqb n 8)

-- bytes that hold a count: one word, and nothing else
abbrev pub ShowsCount : ℕ → List ℕ → Type 0
ShowsCount n bs = (length bs ≡ 8) × (words_in bs ≡ n ∷ [])

-- n is how many bytes the count has
unfoldable pub count_tests : Size → ℕ → ℕ → Tests
count_tests x width n = (over x, 1) ∷ (above x, 11) ∷ (ltb 8 width, 3) ∷ (unfit_count n, 4) ∷ []
