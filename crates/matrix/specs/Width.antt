-- What `width` answers: the width meant by one that is handed in, from A's sizes alone. Assumes nothing.
use Rattle.std.specs.Prelude.{ℕ}
use Rattle.requests.specs.declared.Size.{Size}
use Rattle.requests.specs.Answers.{answered}
use Rattle.matrix.specs.Job.{meant}
use Rattle.matrix.specs.Quote.{quote_tests}

unfoldable pub width_means : Size → ℕ → ℕ × ℕ
width_means x width = answered (quote_tests x width) 0 (meant x width)
