use Rattle.std.proofs.Common.{◌-◌, sym, arith}
use Rattle.cells.specs.Digit.{combine}
use Rattle.rows.proofs.PartLaws.{lent, returned, apart}
use Rattle.rows.proofs.RowLaws.{fewer, made_count}
use Rattle.rows.proofs.table_step.table_step.Goals as goal

pub one-requires : goal.one-requires
one-requires c = (fewer (lent (apart c.requires.0 c.requires.1 c.requires.2 c.requires.3) (c.args.x - c.args.y) (omega arith)) 1 (omega arith), omega arith)

pub accumulate_row-requires : goal.accumulate_row-requires
accumulate_row-requires c = (lent (apart c.requires.0 c.requires.1 c.requires.2 c.requires.3) (c.args.x - c.args.y) (omega arith), omega arith)

pub returns-then-q-eq1 : goal.returns-then-q-eq1
returns-then-q-eq1 c = returned (apart c.requires.0 c.requires.1 c.requires.2 c.requires.3) (c.args.x - c.args.y) (omega arith) (combine 1) (made_count _ _ _ _ _ _ _ (sym c.if-q-eq1.true) c.one.ensures)

pub returns-else-q-eq1 : goal.returns-else-q-eq1
returns-else-q-eq1 c = returned (apart c.requires.0 c.requires.1 c.requires.2 c.requires.3) (c.args.x - c.args.y) (omega arith) (combine 1) c.accumulate_row.ensures
