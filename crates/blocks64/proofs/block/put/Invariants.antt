use lib.ListN.{get_or}
use Rattle.blocks64.specs.Block.{Spread}
use Rattle.blocks64.proofs.block.put.Given as goal

abbrev pub invariant-loop-t : goal.invariant-loop-t
invariant-loop-t l = Spread (λ t. get_or l.block t 0) l.x l.w l.t l.initial.out l.out
