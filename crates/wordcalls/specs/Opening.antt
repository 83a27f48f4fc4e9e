-- What an accepted opening leaves: the record, and zero in table and product. Assumes nothing.
use Rattle.std.specs.Prelude.{◌≡◌, false, List, ℕ, ◌^◌}
use Rattle.buffers.specs.Shows.{Shows}
use Rattle.requests.specs.declared.Size.{Size}
use Rattle.matrix.specs.Job.{meant}
use Rattle.matrix.specs.Opening.{new_job}
use Rattle.matrix.specs.Record.{record_of}

-- the record's words, and then those of table and product
pub record OpenedJob (x y : Size) (width : ℕ) (o : List ℕ × (List ℕ × List ℕ)) : Type 0 where
  pub record_is : o.0 ≡ record_of (new_job x y width) 0 false
  pub table : Shows (2 ^ meant x width) y.columns (λ i j. 0) o.1.0
  pub product : Shows x.rows y.columns (λ i j. 0) o.1.1
