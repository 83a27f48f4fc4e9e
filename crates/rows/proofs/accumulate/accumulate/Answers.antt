use Rattle.cells.specs.Digit.{combine}
use Rattle.rows.proofs.PartLaws.{lent, returned, own}
use Rattle.rows.proofs.RowLaws.{fewer, made_count}
use Rattle.std.proofs.Common.{sym, arith}
use Rattle.rows.proofs.accumulate.accumulate.Goals as goal

pub one-requires : goal.one-requires
one-requires g c = (fewer (lent (own c.requires.0 c.requires.1) 0 (omega arith)) 1 (omega arith), omega (arith, c.requires.2))

pub accumulate_row-requires : goal.accumulate_row-requires
accumulate_row-requires g c = (lent (own c.requires.0 c.requires.1) 0 (omega arith), omega (arith, c.requires.2))

pub returns-then-q-eq1 : goal.returns-then-q-eq1
returns-then-q-eq1 g c = returned (own c.requires.0 c.requires.1) 0 (omega arith) (combine g.row.D) (made_count _ _ _ _ _ _ _ (sym c.if-q-eq1.true) c.one.ensures)

pub returns-else-q-eq1 : goal.returns-else-q-eq1
returns-else-q-eq1 g c = returned (own c.requires.0 c.requires.1) 0 (omega arith) (combine g.row.D) c.accumulate_row.ensures
