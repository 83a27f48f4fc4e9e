use Rattle.std.proofs.Common.{◌*◌}
use Rattle.rows.specs.Fault.{stray_row, Found}
use Rattle.rows.proofs.fault.strays.Given as goal

abbrev pub invariant-loop-p : goal.invariant-loop-p
invariant-loop-p l = Found l.bad (stray_row l.a l.x l.q (64 * l.p))
