use Rattle.std.proofs.Common.{arith}
use Rattle.rows.proofs.RowLaws.{still_readable}
use Rattle.bench.proofs.row_steps.fn.bench_table_step.repeat.Goals as goal

pub returns : goal.returns
returns c = (omega (arith, c.table_step.ensures.long), still_readable _ c.captures.x 0 c.captures.q _ _ (omega arith) c.table_step.ensures c.requires.2)
