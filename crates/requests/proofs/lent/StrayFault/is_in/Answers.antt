use Rattle.std.proofs.Common.{◌∙◌}
use Rattle.requests.proofs.FaultLaws.{strays_there}
use Rattle.requests.proofs.lent.StrayFault.is_in.Goals as goal

pub returns : goal.returns
returns c = rw c.planes.ensures at c.stray.ensures ∙ strays_there _ _ _ _ c.start.ensures.at
