use mathlib.Core.Path.{◌≡◌}
use Prim.Native.Nat.{◌+◌, ◌-◌, ◌*◌, min}
use Rattle.buffers.proofs.SizeLaws.{planes_room, planes_tight}
use Rattle.matrix.specs.Transpose.{transpose_of}
use Rattle.matrix.proofs.TransposeLaws.{rows_block, transposed}
use native.Mathlib.Omega.{arith}
use Rattle.matrix.proofs.transpose.transpose_rows.Goals as goal

pub loop-k-preserved : goal.loop-k-preserved
loop-k-preserved c =
    let now : min (64 * c.loop-k.k) c.args.a.now.columns ≡ 64 * c.loop-k.k = omega (arith, c.args.a.now.whole_plane, planes_tight c.args.a.now.columns) in
    let next : 64 * c.loop-k.k + min 64 (c.args.a.now.columns - 64 * c.loop-k.k) ≡ min (64 * (c.loop-k.k + 1)) c.args.a.now.columns = omega (arith, c.args.a.now.whole_plane, planes_tight c.args.a.now.columns) in
    (rw next at (rows_block _ _ _ _ _ _ _ (rw now at c.loop-k.invariant) c.transpose_64_rows.ensures))

pub returns : goal.returns
unfolding transpose_of
returns c =
    let e : min (64 * c.loop-k.k) c.args.a.now.columns ≡ c.args.a.now.columns = omega (arith, c.args.a.now.whole_plane, planes_room c.args.a.now.columns) in
    transposed _ _ _ _ _ c.planes-q.ensures (rw (e, c.requires) at c.loop-k.invariant)
