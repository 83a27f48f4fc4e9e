-- Sixty-four cells in a pair of words, unit and sign. Assumes nothing.
use Rattle.std.specs.Prelude.{◌≡◌, ℕ, ◌+◌, ◌^◌, ◌<◌, ◌≤◌}
use Rattle.cells.specs.declared.Cells.{Cells}
use Rattle.cells.specs.Bit.{bit}

-- the digit at place t, where the cell is legal
unfoldable pub digit : ℕ → ℕ → ℕ → ℕ
digit u s t = bit u t + bit s t

-- no sign without unit, at any place
unfoldable pub LegalPair : ℕ → ℕ → Type 0
LegalPair u s = (t : ℕ) → bit s t ≤ bit u t

-- the words u and s are legal, and hold the digit f t at every place t
pub record Holds (f : ℕ → ℕ) (u s : ℕ) : Type 0 where
  pub legal : LegalPair u s
  pub digits : (t : ℕ) → digit u s t ≡ f t

-- the same, of words of 64 bits: then they are the only ones
pub record WordPair (f : ℕ → ℕ) (u s : ℕ) : Type 0 where
  pub holds : Holds f u s
  pub unit_fits : u < 2 ^ 64
  pub sign_fits : s < 2 ^ 64

-- what the first three say of the struct's two words
abbrev pub Good : Cells → Type 0
Good x = LegalPair x.unit x.sign

abbrev pub at : Cells → ℕ → ℕ
at x t = digit x.unit x.sign t

abbrev pub Is : (ℕ → ℕ) → Cells → Type 0
Is f x = Holds f x.unit x.sign
