use Rattle.std.proofs.Common.{arith}
use Rattle.rows.proofs.FaultLaws.{strays_none, strays_more}
use Rattle.rows.proofs.fault.strays.Goals as goal

pub loop-p-init : goal.loop-p-init
loop-p-init c = strays_none _ _ _

pub loop-p-preserved : goal.loop-p-preserved
loop-p-preserved c = strays_more _ _ _ c.loop-p.p _ _ _ (omega arith) (omega (arith, c.load-v.type_inv)) (omega (arith, c.load-v.type_inv)) c.load-v.ensures.0 c.load-v.ensures.1 c.loop-p.invariant
