use Rattle.std.proofs.lemmas.Bool.{ne_eqb}
use Prim.Native.Nat.{◌-◌}
use Rattle.buffers.proofs.SizeLaws.{planes_le, planes_tight}
use Rattle.rows.proofs.FaultLaws.{stray_empty, stray_early, stray_late, last_fits}
use native.Mathlib.Omega.{arith}
use Rattle.rows.proofs.fault.stray.Goals as goal

pub returns-then-q-eq0 : goal.returns-then-q-eq0
returns-then-q-eq0 c = stray_empty _ _ _ _ c.requires.0 c.if-q-eq0.true

pub returns-then-strays-ne0 : goal.returns-then-strays-ne0
returns-then-strays-ne0 c = rw (ne_eqb _ 0 c.if-strays-ne0.true) (stray_early _ _ _ _ (c.args.q - 1) c.requires.0 (omega arith) _ c.strays.ensures c.if-strays-ne0.true)

pub overflow_mul-last : goal.overflow_mul-last
overflow_mul-last c = omega (arith, planes_le _ c.requires.1)

pub overflow_sub-c : goal.overflow_sub-c
overflow_sub-c c = omega (arith, planes_tight c.args.c)

pub stray-requires : goal.stray-requires
stray-requires c = last_fits c.args.a.now c.args.x _ _ (c.args.q - 1) c.requires.0 (omega arith)

pub returns-else-strays-ne0 : goal.returns-else-strays-ne0
returns-else-strays-ne0 c = stray_late _ _ _ _ (c.args.q - 1) c.requires.0 (omega arith) _ _ _ _ c.strays.ensures c.if-strays-ne0.false c.load.ensures.0 c.load.ensures.1 c.stray.ensures
