use Rattle.frames.specs.RowLine.{line_long}
use Rattle.texts.proofs.StopsLaws.{row_seen}
use native.Mathlib.Omega.{arith}
use Rattle.texts.proofs.stops.row_stops.Goals as goal

pub overflow_sub-line : goal.overflow_sub-line
unfolding line_long
overflow_sub-line c = omega (arith, c.line_long-line.ensures.0)

pub returns : goal.returns
returns c = row_seen c.args.within.size.columns c.args.text.now c.after.result.now c.args.i c.line_long-line.result c.line_stops.result c.line_long-line.ensures.0 c.after.ensures c.line_stops.ensures
