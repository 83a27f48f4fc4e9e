-- Each count is the sum of the bits of its word. Assumes nothing.
use Rattle.cells.proofs.CountLaws.{zeros_count, ones_count, twos_count}
use Rattle.std.proofs.Common.{arith}
use Rattle.cells.proofs.counts.counts.Goals as goal

pub returns : goal.returns
returns c = rw (c.from-zeros.ensures, c.from-ones.ensures, c.from-twos.ensures, zeros_count c.args.x.unit c.args.x.sign c.args.mask c.requires (omega arith) (omega arith) (omega arith), ones_count c.args.x.unit c.args.x.sign c.args.mask c.requires (omega arith) (omega arith) (omega arith), twos_count c.args.x.unit c.args.x.sign c.args.mask c.requires (omega arith) (omega arith) (omega arith))
