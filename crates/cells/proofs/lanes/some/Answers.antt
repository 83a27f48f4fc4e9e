use Rattle.std.proofs.Common.{refl}
use Rattle.cells.specs.Lanes.{some_of}
use Rattle.cells.proofs.lanes.some.Goals as goal

pub returns : goal.returns
unfolding some_of
returns c = refl
