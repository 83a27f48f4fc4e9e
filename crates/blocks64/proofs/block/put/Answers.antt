use mathlib.Core.Path.{◌≡◌, refl, subst}
use Prim.Native.Nat.{ℕ}
use lib.ListN.{get_or}
use Rattle.blocks64.specs.Block.{Spread}
use Rattle.blocks64.proofs.BlockLaws.{spread_none, spread_next}
use native.Mathlib.Omega.{arith}
use Rattle.blocks64.proofs.block.put.Goals as goal

pub loop-t-init : goal.loop-t-init
loop-t-init c = spread_none _ _ _ _

pub place-requires : goal.place-requires
place-requires c = (omega (arith, c.requires.0.few), c.requires.0.near, c.requires.0.start)

pub offset_bounds-out-place : goal.offset_bounds-out-place
offset_bounds-out-place c = omega (arith, c.requires.0.room c.loop-t.t (omega arith), c.place.ensures)

pub bounds-out-place : goal.bounds-out-place
bounds-out-place c = omega (arith, c.requires.0.room c.loop-t.t (omega arith), c.place.ensures, c.loop-t.invariant.long)

pub loop-t-preserved : goal.loop-t-preserved
loop-t-preserved c = spread_next _ c.args.x c.args.w c.loop-t.t _ _ _ _ (omega arith) c.place.ensures (omega (arith, c.requires.0.room c.loop-t.t (omega arith), c.place.ensures, c.loop-t.invariant.long)) refl c.loop-t.invariant

pub returns : goal.returns
returns c =
    let e : c.loop-t.t ≡ c.args.n = omega arith in
    (subst (λ (n : ℕ). Spread (λ t. get_or c.args.block.now t 0) c.args.x c.args.w n c.args.out.now c.loop-t.out) e c.loop-t.invariant, λ t. omega (arith, c.type_inv.block t))
