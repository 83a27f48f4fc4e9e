-- Rows that are made one after another, and what a call for one of them is lent. Assumes nothing.
use mathlib.Core.Path.{◌≡◌, refl}
use mathlib.Core.List.{List}
use Prim.Native.Nat.{ℕ, ◌+◌, ◌*◌, ◌≤◌, ◌<◌}
use Rattle.buffers.specs.Buffer.{planes, words, Legal, Words}
use Rattle.buffers.proofs.SizeLaws.{row_fits}
use Rattle.rows.specs.Row.{Readable}
use Rattle.rows.proofs.MatrixLaws.{RowsMade, row_readable}
use Rattle.matrix.specs.ByRow.{RowsHold}

module _ (f : ℕ → ℕ → ℕ → ℕ) (r q long : ℕ) (new : List ℕ) where
  pub rows_hold : RowsMade f r q long new → RowsHold f r q long new
  rows_hold R = record { long_is = R.len; holds = R.made }

  pub rows_made : RowsHold f r q long new → RowsMade f r q long new
  rows_made R = record { len = R.long_is; made = R.holds }

module _ (r c i : ℕ) where
  pub row_room : (n : ℕ) → n ≡ words r c → i < r → i * (2 * planes c) + (planes c + planes c) ≤ n
  row_room n e h = row_fits r c i (planes c) n refl e h

  pub row_lent : (ws : List ℕ) → Legal r c ws → Words ws → i < r → Readable (planes c) (planes c) (i * (2 * planes c)) ws
  row_lent ws L fits h = row_readable r c i (planes c) ws refl L fits h
