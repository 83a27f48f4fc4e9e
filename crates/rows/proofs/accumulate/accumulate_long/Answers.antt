use Rattle.std.proofs.Common.{◌+◌, ◌-◌, arith}
use Rattle.cells.specs.Digit.{combine}
use Rattle.rows.proofs.RowLaws.{later, next}
use Rattle.rows.proofs.accumulate.accumulate_long.Goals as goal

pub four-requires : goal.four-requires
four-requires g c = (later c.requires.0 c.loop-j.invariant.2 4 (omega arith), c.requires.1)

pub loop-j-preserved : goal.loop-j-preserved
loop-j-preserved g c = (omega arith, omega arith, next c.requires.0 (combine g.row.D) (c.loop-j.j + 4) (omega arith) (omega arith) c.loop-j.invariant.2 c.four.ensures)

pub accumulate_rest-requires : goal.accumulate_rest-requires
accumulate_rest-requires g c = (omega arith, later c.requires.0 c.loop-j.invariant.2 (c.args.q - c.loop-j.j) (omega arith), c.requires.1)

pub returns : goal.returns
returns g c = next c.requires.0 (combine g.row.D) c.args.q (omega arith) (omega arith) c.loop-j.invariant.2 c.accumulate_rest.ensures
