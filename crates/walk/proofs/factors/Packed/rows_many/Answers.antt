use mathlib.Core.Path.{sym}
use Prim.Native.Nat.{◌+◌}
use Rattle.cells.proofs.SumLaws.{sum_none}
use Rattle.cells.proofs.LanesLaws.{lanes_room}
use Rattle.buffers.proofs.SizeLaws.{planes_le}
use Rattle.walk.proofs.LaneLaws.{starts, long_small, reads_one, rows_small, rows_more, lanes_counted}
use native.Mathlib.Omega.{arith}
use Rattle.walk.proofs.factors.Packed.rows_many.Goals as goal

pub loop-i-init : goal.loop-i-init
loop-i-init g c = sym (sum_none _ 0)

pub overflow_mul-wide : goal.overflow_mul-wide
overflow_mul-wide g c =
    let a = c.args.self.now in
    omega (arith, a.whole_plane, planes_le a.columns a.few_columns)

pub overflow_mul-p : goal.overflow_mul-p
overflow_mul-p g c =
    let a = c.args.self.now in
    omega (arith, a.few_columns, starts a.rows a.columns c.args.k c.args.b c.args.n a.words.now c.requires.fitting)

pub overflow_mul-i : goal.overflow_mul-i
overflow_mul-i g c =
    let a = c.args.self.now in
    omega (arith, long_small a.rows a.columns c.args.k c.args.b c.args.n a.words.now c.requires.fitting, reads_one a.rows a.columns c.args.k c.args.b c.args.n a.words.now c.requires.fitting c.loop-i.i a.plane a.whole_plane (omega arith))

pub overflow_add-i : goal.overflow_add-i
overflow_add-i g c =
    let a = c.args.self.now in
    omega (arith, long_small a.rows a.columns c.args.k c.args.b c.args.n a.words.now c.requires.fitting, reads_one a.rows a.columns c.args.k c.args.b c.args.n a.words.now c.requires.fitting c.loop-i.i a.plane a.whole_plane (omega arith))

pub filled-steps-requires : goal.filled-steps-requires
filled-steps-requires g c =
    (omega (arith, c.requires.in_lanes.low, lanes_room c.args.k c.args.n c.requires.fitting.some c.requires.fitting.word), omega (arith, c.requires.in_lanes.put), (c.requires.counted c.loop-i.i c.read.result c.loop-i-test.true c.read.ensures).good)

pub overflow_add-steps : goal.overflow_add-steps
overflow_add-steps g c =
    let a = c.args.self.now in
    let at = c.loop-i in
    let this = lanes_counted a.rows a.columns c.args.k c.args.b c.args.n a.words.now c.requires.fitting at.i c.filled-steps.result c.args.lanes c.read.result c.requires.in_lanes (c.requires.counted at.i c.read.result c.loop-i-test.true c.read.ensures) c.filled-steps.ensures in
    let next = rows_more a.rows a.columns c.args.k c.args.b c.args.n a.words.now c.requires.fitting at.i at.steps _ at.invariant this in
    omega (arith, next, rows_small a.rows a.columns c.args.k c.args.b c.args.n a.words.now c.requires.fitting (at.i + 1) (omega (arith, a.few_rows)))

pub loop-i-preserved : goal.loop-i-preserved
loop-i-preserved g c =
    let a = c.args.self.now in
    let at = c.loop-i in
    let this = lanes_counted a.rows a.columns c.args.k c.args.b c.args.n a.words.now c.requires.fitting at.i c.filled-steps.result c.args.lanes c.read.result c.requires.in_lanes (c.requires.counted at.i c.read.result c.loop-i-test.true c.read.ensures) c.filled-steps.ensures in
    rows_more a.rows a.columns c.args.k c.args.b c.args.n a.words.now c.requires.fitting at.i at.steps _ at.invariant this
