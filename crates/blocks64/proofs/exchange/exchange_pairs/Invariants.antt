use Rattle.blocks64.specs.Exchange.{Pairs}
use Rattle.blocks64.proofs.exchange.exchange_pairs.Given as goal

abbrev pub invariant-loop-j : goal.invariant-loop-j
invariant-loop-j l = Pairs l.h l.mask l.x l.j l.initial.w l.w
