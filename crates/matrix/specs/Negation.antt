-- What `negation` answers and leaves. Assumes nothing.
use Rattle.std.specs.Prelude.{List, ℕ, length}
use Rattle.cells.specs.Digit.{neg3}
use Rattle.buffers.specs.Buffer.{cell, encode}
use Rattle.requests.specs.declared.Size.{Size}
use Rattle.requests.specs.Answers.{answered}
use Rattle.requests.specs.Single.{single_tests}

unfoldable pub negation_of : ℕ → ℕ → List ℕ → List ℕ
negation_of r c a = encode r c (λ i j. neg3 (cell c a i j))

unfoldable pub negation_means : Size → List ℕ → List ℕ → ℕ × List ℕ
negation_means s a out = answered (single_tests s s a (length out)) out (negation_of s.rows s.columns a)
