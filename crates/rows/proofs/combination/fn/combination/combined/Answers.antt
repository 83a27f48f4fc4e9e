use Rattle.rows.proofs.RowLaws.{made_of2}
use Rattle.rows.proofs.combination.fn.combination.combined.Goals as goal

pub returns : goal.returns
returns c = made_of2 _ _ _ _ _ _ _ c.pair.ensures c.pair-2.ensures c.combination.ensures
