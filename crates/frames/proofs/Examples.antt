-- Lines worked out: the statements compute to what document 01 shows. Assumes nothing.
use mathlib.Core.Path.{◌≡◌, refl}
use mathlib.Core.List.{[], ◌∷◌}
use Rattle.requests.specs.Answers.{first, left, answered}
use Rattle.requests.specs.Sizes.{over}
use Rattle.buffers.specs.Buffer.{planes, wide, tab, joined}
use Rattle.cells.specs.Any.{any}
use Rattle.hexadecimal.specs.Digit.{digit_of, byte_of, nibble}
use Rattle.hexadecimal.specs.Line.{hex_of, value_of, undigit, unframed}
use Rattle.frames.specs.Header.{header_of, size_of, read_header_tests, read_header_means}
use Rattle.frames.specs.RowLine.{line_long, line_of, words_of, read_row_tests, read_row_means, write_row_tests, write_row_means}

-- 00020003 is the header of 2 rows and 3 columns
two_by_three : header_of (record { rows = 2; columns = 3 }) ≡ 48 ∷ 48 ∷ 48 ∷ 50 ∷ 48 ∷ 48 ∷ 48 ∷ 51 ∷ 10 ∷ []
unfolding header_of hex_of tab byte_of nibble
two_by_three = refl

-- 04000400 is read as 1,024 by 1,024, and 04010000 is too large
largest : read_header_means (48 ∷ 52 ∷ 48 ∷ 48 ∷ 48 ∷ 52 ∷ 48 ∷ 48 ∷ 10 ∷ []) ≡ (0, (1024, 1024))
unfolding read_header_means read_header_tests answered first left size_of over value_of unframed undigit any digit_of
largest = refl

larger : read_header_means (48 ∷ 52 ∷ 48 ∷ 49 ∷ 48 ∷ 48 ∷ 48 ∷ 48 ∷ 10 ∷ []) ≡ (1, (0, 0))
unfolding read_header_means read_header_tests answered first left size_of over value_of unframed undigit any digit_of
larger = refl

-- 0000000A has a capital letter; a second byte 10 is one byte too many
capital : read_header_means (48 ∷ 48 ∷ 48 ∷ 48 ∷ 48 ∷ 48 ∷ 48 ∷ 65 ∷ 10 ∷ []) ≡ (10, (0, 0))
unfolding read_header_means read_header_tests answered first left size_of over value_of unframed undigit any digit_of
capital = refl

longer : read_header_means (48 ∷ 48 ∷ 48 ∷ 48 ∷ 48 ∷ 48 ∷ 48 ∷ 48 ∷ 10 ∷ 10 ∷ []) ≡ (10, (0, 0))
unfolding read_header_means read_header_tests answered first left size_of over value_of unframed undigit any digit_of
longer = refl

-- a row of no words is byte 10 alone, read and written
no_words : write_row_means 0 [] (7 ∷ []) ≡ (0, 10 ∷ [])
unfolding write_row_means write_row_tests line_long answered first left line_of wide planes joined
no_words = refl

none_read : read_row_means 0 (10 ∷ []) [] ≡ (0, [])
unfolding read_row_means read_row_tests answered first left words_of wide planes tab unframed undigit any
none_read = refl
