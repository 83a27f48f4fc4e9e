-- A job in bytes that stands after the first d steps of its list: its record, and what these steps leave in table and product. Assumes nothing.
use Rattle.std.specs.Prelude.{◌≡◌, Bool, List, ℕ, ◌^◌, ◌<◌}
use Rattle.buffers.specs.Buffer.{encode}
use Rattle.requests.specs.declared.Size.{Size}
use Rattle.matrix.specs.Stands.{state_at, job_at}
use Rattle.matrix.specs.Record.{record_of}
use Rattle.wordbytes.specs.Bytes.{words_in, bytes_of}

-- the bytes that a host holds of a job between turns: record, table and product
abbrev pub Held : Type 0
Held = List ℕ × (List ℕ × List ℕ)

-- A is x and B is y, with their bytes a and b; the width is k; the record's last two words are those of the last turn
pub record Stands (x y : Size) (k : ℕ) (a b : List ℕ) (d : ℕ) (job t p : List ℕ) : Type 0 where
  pub made : ℕ
  pub ended : Bool
  pub made_fits : made < 2 ^ 64
  pub record_is : job ≡ bytes_of (record_of (job_at x y k d) made ended)
  pub table_is : t ≡ bytes_of (encode (2 ^ k) y.columns (state_at x y k (words_in a) (words_in b) d).table)
  pub product_is : p ≡ bytes_of (encode x.rows y.columns (state_at x y k (words_in a) (words_in b) d).product)
