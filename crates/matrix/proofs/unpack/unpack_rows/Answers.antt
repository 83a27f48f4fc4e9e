use Rattle.std.proofs.Common.{◌≡◌, ◌+◌, ◌*◌, ◌≤◌, length}
use Rattle.std.specs.List.{between}
use Rattle.std.proofs.lemmas.List.Edits.{length-between}
use Rattle.matrix.specs.Unpack.{unpack_of}
use Rattle.buffers.proofs.SizeLaws.{planes_le, words_le, row_fits}
use Rattle.matrix.proofs.PackLaws.{cells_in, row_long}
use Rattle.matrix.proofs.UnpackLaws.{bytes_more, bytes_all}
use native.Mathlib.Omega.{arith}
use Rattle.matrix.proofs.unpack.unpack_rows.Goals as goal

pub overflow_mul-w : goal.overflow_mul-w
overflow_mul-w c = omega (arith, planes_le _ c.args.a.now.few_columns)

pub overflow_mul-x : goal.overflow_mul-x
overflow_mul-x c = omega (arith, row_fits _ _ c.loop-i.i _ _ c.args.a.now.whole_plane c.args.a.now.legal.long (omega arith), words_le _ _ c.args.a.now.few_rows c.args.a.now.few_columns)

pub unpack_row-requires : goal.unpack_row-requires
unpack_row-requires c =
    let long = row_long c.loop-i.out c.args.a.now.columns c.loop-i.i (omega (arith, cells_in c.args.a.now.rows c.args.a.now.columns c.loop-i.i (omega arith))) in
    (rw long c.args.a.now.few_columns, rw long c.args.a.now.whole_plane, row_fits _ _ c.loop-i.i _ _ c.args.a.now.whole_plane c.args.a.now.legal.long (omega arith))

pub loop-i-preserved : goal.loop-i-preserved
loop-i-preserved c =
    let from = c.loop-i.i * c.args.a.now.columns in
    let end = from + c.args.a.now.columns in
    let long : length c.unpack_row.new.row ≡ length (between from end c.loop-i.out) = c.unpack_row.auto.row in
    let room : end ≤ length c.loop-i.out = omega (arith, cells_in c.args.a.now.rows c.args.a.now.columns c.loop-i.i (omega arith)) in
    bytes_more _ _ c.loop-i.i _ _ _ _ _ c.args.a.now.whole_plane (omega arith) (omega (arith, long, length-between c.loop-i.out from end)) (omega arith) c.loop-i.invariant (rw long c.unpack_row.ensures)

pub returns : goal.returns
unfolding unpack_of
returns c =
    let e : c.loop-i.i ≡ c.args.a.now.rows = omega arith in
    bytes_all _ _ _ _ (rw (e, c.requires) at c.loop-i.invariant)
