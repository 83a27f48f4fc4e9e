use Rattle.std.proofs.Common.{sym, ◌∙◌, arith}
use Rattle.buffers.specs.Fault.{stray}
use Rattle.requests.proofs.FaultLaws.{none_stray}
use Rattle.requests.proofs.lent.Lent.clear.Goals as goal

pub returns-then-has : goal.returns-then-has
returns-then-has c = (omega arith, none_stray _ _)

pub returns-then-planes-lt2 : goal.returns-then-planes-lt2
unfolding stray
returns-then-planes-lt2 c = (omega arith, sym c.has.ensures ∙ c.if-has.false)

pub loop-from-init : goal.loop-from-init
loop-from-init c = (omega arith, none_stray _ _)
