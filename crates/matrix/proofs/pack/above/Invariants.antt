use mathlib.Core.Path.{◌≡◌}
use lib.Dec.{ltb}
use lib.ListN.{get_or}
use Rattle.cells.specs.Any.{any}
use Rattle.matrix.proofs.pack.above.Given as goal

abbrev pub invariant-loop-cell : goal.invariant-loop-cell
invariant-loop-cell l = ltb 2 l.worst ≡ any l.cell-index (λ n. ltb 2 (get_or l.cells n 0))
