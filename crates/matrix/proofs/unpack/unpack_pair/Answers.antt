use Rattle.std.proofs.Common.{arith}
use Rattle.cells.specs.Bit.{bit}
use Rattle.cells.specs.Pair.{digit}
use Rattle.matrix.proofs.UnpackLaws.{halved, digits_next}
use Rattle.matrix.proofs.unpack.unpack_pair.Goals as goal

pub loop-cell-preserved : goal.loop-cell-preserved
unfolding digit bit
loop-cell-preserved c = (
  halved _ _ c.loop-cell.cell-index c.loop-cell.invariant.0,
  halved _ _ c.loop-cell.cell-index c.loop-cell.invariant.1,
  digits_next _ _ c.loop-cell.cell-index _ (omega arith) (omega (arith, c.loop-cell.invariant.0, c.loop-cell.invariant.1)) c.loop-cell.invariant.2,
)
