-- The witness as words: in every row a unit plane of ones and a sign plane with a one in odd columns, both cut at the last column. Assumes nothing.
use Rattle.std.specs.Prelude.{List, ◌++◌, ℕ, ◌-◌, ◌*◌, ◌%◌, ◌^◌, min}
use Rattle.buffers.specs.Buffer.{planes, tab, joined}
use Rattle.requests.specs.declared.Size.{Size}

-- a plane of c columns: the word v over and over, without its bits beyond the last column
unfoldable pub cut : ℕ → ℕ → List ℕ
cut c v = tab (planes c) (λ p. v % 2 ^ min 64 (c - 64 * p))

-- the two words are 0xffffffffffffffff and 0xaaaaaaaaaaaaaaaa
unfoldable pub witness_words : Size → List ℕ
witness_words s = joined s.rows (λ i. cut s.columns 18446744073709551615 ++ cut s.columns 12297829382473034410)
