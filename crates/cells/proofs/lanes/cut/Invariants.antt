use Rattle.std.proofs.Common.{◌≡◌, ◌-◌}
use Rattle.cells.specs.Lanes.{low_of, top_of}
use Rattle.cells.proofs.lanes.cut.Given as goal

abbrev pub invariant-loop-lane : goal.invariant-loop-lane
invariant-loop-lane l = (l.low ≡ low_of (l.k - 1) l._lane) × (l.top ≡ top_of (l.k - 1) l._lane)
