use Prim.Native.Nat.{◌+◌, ◌*◌}
use lib.ListN.{get_or}
use Rattle.rows.specs.Row.{Written}
use Rattle.blocks64.proofs.block.fetch.Given as goal

abbrev pub invariant-loop-t : goal.invariant-loop-t
invariant-loop-t l = Written (λ t. get_or l.a (l.x + t * l.w) 0) 0 l.t l.initial.block l.block
