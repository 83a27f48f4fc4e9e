use Rattle.buffers.specs.Buffer.{wide}
use Rattle.buffers.proofs.SizeLaws.{planes_le}
use native.Mathlib.Omega.{arith}
use Rattle.frames.proofs.row_line.words_of_row.Goals as goal

pub overflow_mul-result : goal.overflow_mul-result
overflow_mul-result c = omega (arith, planes_le _ c.if-columns-gt1024.false, c.planes.ensures)

pub returns : goal.returns
unfolding wide
returns c = (rw (c.planes.ensures), c.if-columns-gt1024.false)
