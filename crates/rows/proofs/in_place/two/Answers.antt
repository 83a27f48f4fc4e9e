use Prim.Native.Nat.{◌+◌}
use Rattle.cells.specs.Digit.{combine}
use Rattle.rows.proofs.RowLaws.{made_two, load_legal, next_sign, pair2}
use native.Mathlib.Omega.{arith}
use Rattle.rows.proofs.in_place.two.Goals as goal

pub combination-v-requires : goal.combination-v-requires
combination-v-requires g c =
    (load_legal c.args.t.now c.args.y c.args.q 2 0 c.args.y _ _ c.requires.0.first.legal (omega arith) (omega arith) c.load_at.ensures.0 c.load_at.ensures.1, load_legal c.args.b.now c.args.z c.args.q 2 0 c.args.z _ _ c.requires.0.second.legal (omega arith) (omega arith) c.load_at-2.ensures.0 c.load_at-2.ensures.1, c.requires.1)

pub combination-w-requires : goal.combination-w-requires
combination-w-requires g c =
    (load_legal c.args.t.now c.args.y c.args.q 2 1 (c.args.y + 1) _ _ c.requires.0.first.legal (omega arith) (omega arith) c.load_at-3.ensures.0 (next_sign c.args.t.now c.args.y c.args.q _ c.load_at-3.ensures.1), load_legal c.args.b.now c.args.z c.args.q 2 1 (c.args.z + 1) _ _ c.requires.0.second.legal (omega arith) (omega arith) c.load_at-4.ensures.0 (next_sign c.args.b.now c.args.z c.args.q _ c.load_at-4.ensures.1), c.requires.1)

pub returns : goal.returns
returns g c =
    rw c.store_two.ensures
    (made_two _ c.args.x c.args.q _ _ _ _ _ (omega (arith, c.requires.0.fits)) (omega (arith, c.requires.0.room))
    (pair2 (combine g.row.D) c.args.q c.args.t.now c.args.y c.args.y _ _ c.args.b.now c.args.z c.args.z _ _ 0 _ _ (omega arith) c.load_at.ensures.0 c.load_at.ensures.1 (omega arith) c.load_at-2.ensures.0 c.load_at-2.ensures.1 c.combination-v.ensures (omega (arith, c.combination-v.type_inv)) (omega (arith, c.combination-v.type_inv)))
    (pair2 (combine g.row.D) c.args.q c.args.t.now c.args.y (c.args.y + 1) _ _ c.args.b.now c.args.z (c.args.z + 1) _ _ 1 _ _ (omega arith) c.load_at-3.ensures.0 (next_sign c.args.t.now c.args.y c.args.q _ c.load_at-3.ensures.1) (omega arith) c.load_at-4.ensures.0 (next_sign c.args.b.now c.args.z c.args.q _ c.load_at-4.ensures.1) c.combination-w.ensures (omega (arith, c.combination-w.type_inv)) (omega (arith, c.combination-w.type_inv))))
