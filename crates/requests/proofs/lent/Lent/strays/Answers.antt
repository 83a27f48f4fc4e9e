use Rattle.std.proofs.Common.{arith}
use Rattle.requests.proofs.FaultLaws.{strays_next}
use Rattle.requests.proofs.lent.Lent.strays.Goals as goal

pub strays-bad-requires : goal.strays-bad-requires
strays-bad-requires c = (omega arith, rw c.planes-q.ensures c.start.ensures.within)

pub loop-i-preserved : goal.loop-i-preserved
loop-i-preserved c = λ z h.
    strays_next _ _ c.loop-i.i _ c.loop-i.bad c.strays-bad.result c.start.ensures.at (omega arith) (omega (arith, c.strays-bad.type_inv)) (λ y. c.loop-i.invariant y h)
    (rw c.planes-q.ensures at c.strays-bad.ensures) z
