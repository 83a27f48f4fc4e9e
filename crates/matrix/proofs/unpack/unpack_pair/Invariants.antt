use mathlib.Core.Path.{◌≡◌}
use Prim.Native.Nat.{ℕ, ◌/◌, ◌^◌, ◌<◌}
use lib.ListN.{get_or}
use Rattle.cells.specs.Pair.{digit}
use Rattle.matrix.proofs.unpack.unpack_pair.Given as goal

abbrev pub invariant-loop-cell : goal.invariant-loop-cell
invariant-loop-cell l =
    (l.unit ≡ l.initial.unit / 2 ^ l.cell-index) × (l.sign ≡ l.initial.sign / 2 ^ l.cell-index) × ((t : ℕ) → t < l.cell-index → get_or l.digits t 0 ≡ digit l.initial.unit l.initial.sign t)
