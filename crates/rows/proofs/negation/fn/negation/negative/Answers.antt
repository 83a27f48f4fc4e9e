use Rattle.rows.proofs.RowLaws.{made_of1}
use Rattle.rows.proofs.negation.fn.negation.negative.Goals as goal

pub returns : goal.returns
returns c = made_of1 _ _ _ _ _ c.pair.ensures c.negation.ensures
