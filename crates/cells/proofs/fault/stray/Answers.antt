use Rattle.std.proofs.Common.{arith}
use Rattle.cells.proofs.FaultLaws.{stray_tested}
use Rattle.cells.proofs.fault.stray.Goals as goal

pub returns : goal.returns
returns c = rw c.low.ensures (stray_tested c.args.x.unit c.args.x.sign c.args.n c.requires.1 (omega arith) (omega arith))
