use Rattle.std.proofs.Common.{◌∙◌}
use Rattle.requests.proofs.FaultLaws.{pads_there}
use Rattle.requests.proofs.lent.PaddingFault.is_in.Goals as goal

pub returns : goal.returns
returns c = rw c.planes.ensures at c.padded.ensures ∙ pads_there _ _ _ _ c.start.ensures.at
