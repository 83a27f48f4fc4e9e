use Rattle.std.proofs.Common.{◌-◌, ◌*◌, ◌%◌, ◌^◌, arith}
use Rattle.cells.proofs.LanesLaws.{Next, low_none, top_none, cut_next}
use Rattle.cells.proofs.lanes.cut.Goals as goal

-- what one lane more makes of the words
next : (c : goal.In-loop-lane) → Next c.args.k c.loop-lane._lane c.loop-lane.low c.loop-lane.top (1 * 2 ^ (c.args.k - 1) % 18446744073709551616)
next c =
    let at = c.loop-lane in
    cut_next c.args.k c.args.n at._lane at.low at.top c.requires.0 c.requires.1 c.requires.2 c.loop-lane-test.true at.invariant.0 at.invariant.1

pub loop-lane-init : goal.loop-lane-init
loop-lane-init c = (low_none (c.args.k - 1), top_none (c.args.k - 1))

pub overflow_add-low : goal.overflow_add-low
overflow_add-low c = let more = next c in omega (arith, more.low, more.low_fits)

pub overflow_add-top : goal.overflow_add-top
overflow_add-top c = let more = next c in omega (arith, more.top, more.top_fits)

pub loop-lane-preserved : goal.loop-lane-preserved
loop-lane-preserved c = let more = next c in (more.low, more.top)
