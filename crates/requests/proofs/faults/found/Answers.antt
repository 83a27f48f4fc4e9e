use Rattle.std.proofs.Common.{ap, refl}
use Rattle.cells.specs.Any.{any}
use Rattle.buffers.specs.Fault.{stray, padded, stray_at, padded_at}
use Rattle.requests.specs.Answers.{placed, first}
use Rattle.requests.specs.Faults.{faults}
use Rattle.requests.proofs.FaultLaws.{stray_some, padded_some}
use Rattle.requests.proofs.faults.found.Goals as goal

pub first-requires : goal.first-requires
unfolding stray
first-requires c = c.requires

pub returns-in-Some : goal.returns-in-Some
unfolding faults first stray_at
returns-in-Some c = rw (stray_some _ _ _ _ c.in-Some.ensures) (ap (placed 5) c.place.ensures)

pub first-requires-2 : goal.first-requires-2
unfolding any
first-requires-2 c = refl

pub returns-in-Some-first : goal.returns-in-Some-first
unfolding faults first stray padded_at
returns-in-Some-first c =
    rw (c.in_default.ensures, padded_some _ _ _ _ c.in-Some-first.ensures) (ap (placed 6) c.place-in-Some-first.ensures)

pub returns : goal.returns
unfolding faults first stray padded
returns c = rw (c.in_default.ensures, c.in_default-first.ensures)
