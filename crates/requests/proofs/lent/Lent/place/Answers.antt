use Rattle.requests.proofs.FaultLaws.{first_is}
use Rattle.requests.proofs.lent.Lent.place.Goals as goal

pub returns : goal.returns
returns g c = rw (first_is _ _ _ c.requires, c.column_in.ensures.0)
