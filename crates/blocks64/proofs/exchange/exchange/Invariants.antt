use Rattle.blocks64.specs.Exchange.{Stage}
use Rattle.blocks64.proofs.exchange.exchange.Given as goal

abbrev pub invariant-loop-k : goal.invariant-loop-k
invariant-loop-k l = Stage l.h l.mask l.k l.initial.w l.w
