use Rattle.std.proofs.Common.{◌∙◌, arith}
use Rattle.buffers.proofs.SizeLaws.{planes_room}
use Rattle.rows.proofs.FaultLaws.{padded_full, padded_last}
use Rattle.rows.proofs.fault.padded.Goals as goal

pub load-requires : goal.load-requires
load-requires c = omega (arith, planes_room c.args.c)

pub returns-then-n-ne0 : goal.returns-then-n-ne0
returns-then-n-ne0 c = c.padded.ensures ∙ padded_last c.args.a.now c.args.x c.args.q c.args.c _ _ c.requires.0 c.if-n-ne0.true c.load.ensures.0 c.load.ensures.1

pub returns-else-n-ne0 : goal.returns-else-n-ne0
returns-else-n-ne0 c = rw c.if-n-ne0.false (padded_full _ _ _ _ c.requires.0 c.if-n-ne0.false)

pub overflow_sub-q : goal.overflow_sub-q
overflow_sub-q c = omega (arith, planes_room c.args.c)
