use mathlib.Core.Path.{ap, ◌∙◌}
use Prim.Native.Nat.{ℕ}
use lib.Dec.{ltb}
use lib.ListN.{get_or}
use Rattle.matrix.proofs.PackLaws.{above_none, above_more}
use Rattle.matrix.proofs.pack.above.Goals as goal

pub loop-cell-init : goal.loop-cell-init
loop-cell-init c = above_none (λ n. get_or c.args.cells.now n 0)

pub loop-cell-preserved : goal.loop-cell-preserved
loop-cell-preserved c = ap (λ (n : ℕ). ltb 2 n) c.max-worst.ensures ∙ above_more (λ n. get_or c.args.cells.now n 0) c.loop-cell.cell-index c.loop-cell.worst c.loop-cell.invariant
