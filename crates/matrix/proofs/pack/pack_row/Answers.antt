use mathlib.Core.Path.{refl}
use Rattle.std.proofs.Common.{◌+◌, ◌-◌, ◌*◌, min, length, get_or, arith}
use Rattle.buffers.proofs.SizeLaws.{planes_le, planes_tight}
use Rattle.rows.proofs.RowLaws.{made_next}
use Rattle.matrix.specs.Gathered.{up_to}
use Rattle.matrix.proofs.GatherLaws.{between_holds}
use Rattle.matrix.proofs.pack.pack_row.Goals as goal

pub overflow_mul-from : goal.overflow_mul-from
overflow_mul-from c = omega (arith, planes_le _ c.requires.0)

pub real-requires : goal.real-requires
real-requires c = (c.requires.0, omega (arith, planes_tight (length c.args.row.now)))

pub overflow_add-from : goal.overflow_add-from
overflow_add-from c = omega (arith, c.real.ensures, planes_le _ c.requires.0)

pub slice_bounds-pack_pair-end : goal.slice_bounds-pack_pair-end
slice_bounds-pack_pair-end c = omega (arith, c.real.ensures, planes_tight (length c.args.row.now))

pub loop-p-preserved : goal.loop-p-preserved
loop-p-preserved c =
    let made = between_holds c.args.row.now (64 * c.loop-p.p) _ c.real.result _ _ refl (omega (arith, c.real.ensures, planes_tight (length c.args.row.now))) (omega (arith, c.real.ensures)) c.requires.3 c.pack_pair-pair.ensures.0 c.pack_pair-pair.ensures.1 in
    rw c.store.ensures
    (made_next (λ p. up_to (min 64 (length c.args.row.now - 64 * p)) (λ t. get_or c.args.row.now (64 * p + t) 0)) c.args.x c.args.q c.loop-p.p _ _ _ _ (omega arith) (omega (arith, c.loop-p.invariant.long)) (rw c.real.ensures at made) c.loop-p.invariant)
