use mathlib.Core.Path.{sym, ◌∙◌}
use Rattle.texts.proofs.StopsLaws.{line_short, line_whole}
use native.Mathlib.Omega.{arith}
use Rattle.texts.proofs.stops.line_stops.Goals as goal

pub returns-then-text-n : goal.returns-then-text-n
returns-then-text-n c = c.undigit.ensures ∙ sym (line_short c.args.n c.args.text.now (omega arith))

pub returns : goal.returns
returns c = c.unframed.ensures ∙ sym (line_whole c.args.n c.args.text.now (omega arith))
