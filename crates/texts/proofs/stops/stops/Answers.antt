use Rattle.texts.proofs.StopsLaws.{past_both}
use Rattle.texts.proofs.stops.stops.Goals as goal

pub returns-in-Some : goal.returns-in-Some
returns-in-Some c = rw c.is_empty.ensures (rw c.in-Some.is at (past_both c.args.text.now _ _ c.past_matrix.ensures c.and_then.ensures))

pub returns-in-None : goal.returns-in-None
returns-in-None c = rw c.in-None.is at (past_both c.args.text.now _ _ c.past_matrix.ensures c.and_then.ensures)
