use Rattle.std.proofs.Common.{refl, arith}
use Rattle.buffers.proofs.SizeLaws.{planes_le, words_le, row_fits}
use Rattle.requests.proofs.lent.Lent.start.Goals as goal

pub overflow_mul-result : goal.overflow_mul-result
overflow_mul-result c = omega (arith, planes_le _ c.args.self.now.columns_fit, c.planes.ensures)

pub overflow_mul-result-2 : goal.overflow_mul-result-2
overflow_mul-result-2 c =
    let s = c.args.self.now in
    omega (arith, row_fits _ _ c.args.i _ _ c.planes.ensures s.whole c.requires, words_le _ _ s.rows_fit s.columns_fit)

pub returns : goal.returns
returns c =
    let s = c.args.self.now in
    record { at = rw c.planes.ensures; within = rw c.planes.ensures (row_fits _ _ c.args.i _ _ refl s.whole c.requires) }
