use Rattle.std.proofs.Common.{arith}
use Rattle.cells.proofs.FaultLaws.{padded_tested}
use Rattle.cells.proofs.fault.padded.Goals as goal

pub returns : goal.returns
returns c = padded_tested c.args.x.unit c.args.x.sign c.args.n (omega arith) (omega arith)
