use Rattle.std.proofs.Common.{◌≡◌, length, ◌+◌, ◌-◌, ◌*◌, arith}
use Rattle.std.specs.List.{between}
use Rattle.std.proofs.lemmas.List.Edits.{length-between}
use Rattle.buffers.proofs.SizeLaws.{planes_le, planes_tight, planes_room}
use Rattle.matrix.proofs.UnpackLaws.{row_more}
use Rattle.matrix.proofs.unpack.unpack_row.Goals as goal

pub overflow_mul-from : goal.overflow_mul-from
overflow_mul-from c = omega (arith, planes_le _ c.requires.0)

pub real-requires : goal.real-requires
real-requires c = (c.requires.0, omega (arith, planes_tight (length c.args.row.now)))

pub overflow_add-from : goal.overflow_add-from
overflow_add-from c = omega (arith, c.real.ensures, planes_le _ c.requires.0)

pub slice_bounds-unpack_pair-end : goal.slice_bounds-unpack_pair-end
slice_bounds-unpack_pair-end c = omega (arith, c.real.ensures, planes_tight (length c.args.row.now))

pub loop-p-preserved : goal.loop-p-preserved
loop-p-preserved c =
    let from = 64 * c.loop-p.p in
    let long : length c.unpack_pair.new.digits ≡ length (between from (from + c.real.result) c.loop-p.row) = c.unpack_pair.auto.digits in
    let whole : length c.unpack_pair.new.digits ≡ from + c.real.result - from = omega (arith, length-between c.loop-p.row from (from + c.real.result), c.real.ensures, planes_tight (length c.args.row.now)) in
    row_more _ _ _ (length c.args.row.now) c.requires.1 c.loop-p.p c.real.result _ _ _ _ _ (omega arith) c.real.ensures (omega arith) (omega arith) whole c.load.ensures.0 c.load.ensures.1
    c.loop-p.invariant (rw long c.unpack_pair.ensures)

pub returns : goal.returns
returns c = λ j h. c.loop-p.invariant j (omega (arith, planes_room (length c.args.row.now)))
