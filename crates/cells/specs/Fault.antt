-- The two faults of cells that stand side by side, in a word or in a row, as tests, and the first place of each. Assumes nothing.
use Rattle.std.specs.Prelude.{ℕ, ◌+◌, ◌-◌, Bool, nat_lt}
use Rattle.cells.specs.Any.{any, least}

-- a real column holds sign without unit: columns 0 to c - 1, of unit bits u and sign bits s
abbrev pub stray_in : (ℕ → ℕ) → (ℕ → ℕ) → ℕ → Bool
stray_in u s c = any c (λ j. nat_lt (u j) (s j))

-- a padding bit is set, in either plane: columns c to n - 1, of digits d
abbrev pub padded_in : (ℕ → ℕ) → ℕ → ℕ → Bool
padded_in d c n = any (n - c) (λ j. nat_lt 0 (d (c + j)))

-- the first column of either fault, where there is one
abbrev pub stray_first : (ℕ → ℕ) → (ℕ → ℕ) → ℕ → ℕ
stray_first u s c = least c (λ j. nat_lt (u j) (s j))

abbrev pub padded_first : (ℕ → ℕ) → ℕ → ℕ → ℕ
padded_first d c n = c + least (n - c) (λ j. nat_lt 0 (d (c + j)))
