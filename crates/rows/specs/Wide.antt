-- Sixty-four columns of a row at once, from place t of the pair at word x on: of this pair alone, and of it and the next. Assumes nothing.
use Rattle.std.specs.Prelude.{List, ℕ, ◌+◌, ◌-◌, ◌*◌, ◌/◌, ◌%◌, ◌^◌, get_or}
use Rattle.std.specs.Int.Bits.{bit_or}
use Rattle.cells.specs.declared.Cells.{Cells}

abbrev pub one_word : List ℕ → ℕ → ℕ → ℕ
one_word ws x t = get_or ws x 0 / 2 ^ t

abbrev pub two_words : List ℕ → ℕ → ℕ → ℕ
two_words ws x t = bit_or (get_or ws x 0 / 2 ^ t) (get_or ws (x + 1) 0 * 2 ^ (64 - t) % 2 ^ 64)

unfoldable pub of_one : List ℕ → ℕ → ℕ → ℕ → Cells
of_one ws q x t = record { unit = one_word ws x t; sign = one_word ws (x + q) t }

unfoldable pub of_two : List ℕ → ℕ → ℕ → ℕ → Cells
of_two ws q x t = record { unit = two_words ws x t; sign = two_words ws (x + q) t }
