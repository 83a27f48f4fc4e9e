use Rattle.std.proofs.Common.{arith}
use Rattle.rows.proofs.RowLaws.{made_readable}
use Rattle.bench.proofs.row_steps.fn.accumulations.repeat.Goals as goal

pub returns : goal.returns
returns g c = made_readable _ 0 c.captures.q _ _ (omega (arith, c.requires.0.room)) c.accumulate.ensures
