-- A matrix that was read out of the beginning of a text, into the first words of a buffer. Assumes nothing.
use Rattle.std.specs.Prelude.{◌≡◌, List, ℕ, ◌≤◌, take, Result, Ok, Err}
use Rattle.buffers.specs.Buffer.{words}
use Rattle.requests.specs.declared.Size.{Size}
use Rattle.requests.specs.declared.Reason.{Reason}
use Rattle.requests.specs.Answers.{reason_word}
use Rattle.texts.specs.declared.limit.Limited.{Limited}
use Rattle.texts.specs.MatrixText.{size_in, words_in, rest_of}
use Rattle.texts.specs.Multiply.{laid}

-- what an answer says of a size: its word, and the counts that it holds
abbrev pub size_told : Result Limited Reason → ℕ × (ℕ × ℕ)
size_told (Ok within) = (0, (within.size.rows, within.size.columns))
size_told (Err reason) = (reason_word reason, (0, 0))

pub record Found (text : List ℕ) (size : Size) (rest old new : List ℕ) : Type 0 where
  pub size_is : size ≡ size_in text
  pub few : size.rows ≤ 128
  pub narrow : size.columns ≤ 128
  pub rest_is : rest ≡ rest_of text
  pub words_are : new ≡ laid (words_in text) old

-- A and B out of a whole text, each in the first words of its buffer
pub record Matrices (text : List ℕ) (x y : Size) (a b : List ℕ) : Type 0 where
  pub x_is : x ≡ size_in text
  pub y_is : y ≡ size_in (rest_of text)
  pub x_rows : x.rows ≤ 128
  pub x_columns : x.columns ≤ 128
  pub y_rows : y.rows ≤ 128
  pub y_columns : y.columns ≤ 128
  pub a_is : take (words x.rows x.columns) a ≡ words_in text
  pub b_is : take (words y.rows y.columns) b ≡ words_in (rest_of text)
