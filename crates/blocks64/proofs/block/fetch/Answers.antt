use mathlib.Core.Path.{◌≡◌, ap, subst}
use Prim.Native.Nat.{ℕ, ◌+◌, ◌*◌}
use lib.ListN.{get_or}
use Rattle.rows.specs.Row.{Written}
use Rattle.rows.proofs.RowLaws.{written_none, written_next}
use native.Mathlib.Omega.{arith}
use Rattle.blocks64.proofs.block.fetch.Goals as goal

pub loop-t-init : goal.loop-t-init
loop-t-init c = written_none _ _ _

pub place-requires : goal.place-requires
place-requires c = (omega (arith, c.requires.0.few), c.requires.0.near, c.requires.0.start)

pub offset_bounds-a-place : goal.offset_bounds-a-place
offset_bounds-a-place c = omega (arith, c.requires.0.room c.loop-t.t (omega arith), c.place.ensures)

pub bounds-a-place : goal.bounds-a-place
bounds-a-place c = omega (arith, c.requires.0.room c.loop-t.t (omega arith), c.place.ensures)

pub bounds-block-t : goal.bounds-block-t
bounds-block-t c = omega (arith, c.loop-t.invariant.long)

pub loop-t-preserved : goal.loop-t-preserved
loop-t-preserved c =
    let z : 0 + c.loop-t.t ≡ c.loop-t.t = omega arith in
    rw z at (written_next _ 0 c.loop-t.t _ _ _ (omega (arith, c.loop-t.invariant.long)) (ap (λ (k : ℕ). get_or c.args.a.now k 0) c.place.ensures) c.loop-t.invariant)

pub returns : goal.returns
returns c =
    let e : c.loop-t.t ≡ c.args.n = omega arith in
    subst (λ (n : ℕ). Written (λ t. get_or c.args.a.now (c.args.x + t * c.args.w) 0) 0 n c.args.block.now c.loop-t.block) e c.loop-t.invariant
