-- Digits that are gathered into a word of which only some places are columns. Assumes nothing.
use Rattle.std.specs.Prelude.{true, false, ℕ, ltb}

-- f below n, and 0 from there on
unfoldable pub up_to : ℕ → (ℕ → ℕ) → ℕ → ℕ
up_to n f t = elim (ltb t n) [ true ↦ f t | false ↦ 0 ]
