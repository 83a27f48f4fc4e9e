-- Room for the words of a buffer of bytes. Assumes nothing.
use Rattle.std.specs.Prelude.{◌≡◌, ℕ, ◌*◌, ◌%◌, ◌≤◌}

-- n bytes are whole words, at most m of them
abbrev pub Room : ℕ → ℕ → Type 0
Room m n = (n % 8 ≡ 0) × (n ≤ 8 * m)
