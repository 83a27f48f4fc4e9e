use mathlib.Core.Path.{◌≡◌}
use native.Mathlib.Omega.{arith}
use Rattle.buffers.proofs.SizeLaws.{planes_le, words_le, row_fits}
use Rattle.rows.proofs.MatrixLaws.{rows_more}
use Rattle.matrix.proofs.ByRowLaws.{rows_hold, rows_made}
use Rattle.matrix.proofs.by_row.by_row.Goals as goal

pub overflow_mul-w : goal.overflow_mul-w
overflow_mul-w g c = omega (arith, planes_le _ c.requires.size.1)

pub overflow_mul-i : goal.overflow_mul-i
overflow_mul-i g c =
    omega (arith, row_fits _ _ c.loop-i.i _ _ c.planes-q.ensures c.requires.size.2 (omega arith), words_le _ _ c.requires.size.0 c.requires.size.1)

pub loop-i-preserved : goal.loop-i-preserved
loop-i-preserved g c f h =
    rw c.planes-q.ensures
    (rows_hold f _ _ _ _ (rows_more f _ _ _ _ _ (rows_made f _ _ _ _ (rw c.planes-q.ensures at (c.loop-i.invariant f h))) (h c.loop-i.i _ _ (omega arith) (omega (arith, c.requires.size.2)) (rw c.planes-q.ensures at c.make.ensures))))

pub returns : goal.returns
returns g c f h =
    let e : c.loop-i.i ≡ c.args.r = omega arith in
    rw (e, c.planes-q.ensures, c.requires.size.2) at (c.loop-i.invariant f h)
