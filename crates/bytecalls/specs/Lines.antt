-- What is right of a line that was read: the numbers that its digits say, of which it is the line. Assumes nothing.
use Rattle.std.specs.Prelude.{◌≡◌, List, ℕ}
use Rattle.buffers.specs.Buffer.{wide}
use Rattle.hexadecimal.specs.Line.{value_of}
use Rattle.frames.specs.Header.{header_of}
use Rattle.frames.specs.RowLine.{line_of, words_of}

-- rows and columns
pub record HeaderRead (line : List ℕ) (o : ℕ × ℕ) : Type 0 where
  pub rows : o.0 ≡ value_of line 0 4
  pub columns : o.1 ≡ value_of line 4 4
  pub line_is : header_of (record { rows = o.0; columns = o.1 }) ≡ line

-- the words of a row of c columns
pub record RowRead (c : ℕ) (line o : List ℕ) : Type 0 where
  pub words : o ≡ words_of (wide c) line
  pub line_is : line_of (wide c) o ≡ line
