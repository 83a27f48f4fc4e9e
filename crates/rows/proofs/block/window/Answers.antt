use Rattle.rows.proofs.BlockLaws.{window_one, window_two}
use native.Mathlib.Omega.{arith}
use Rattle.rows.proofs.block.window.Goals as goal

pub returns-then-w-room : goal.returns-then-w-room
returns-then-w-room g c = rw c.low-mask.ensures (window_one c.args.a.now c.args.x c.args.s c.args.w c.if-w-room.true)

pub returns-else-w-room : goal.returns-else-w-room
returns-else-w-room g c = rw c.low-mask.ensures (window_two c.args.a.now c.args.x c.args.s c.args.w (omega arith) (omega arith))

pub returns-then-this-eq1 : goal.returns-then-this-eq1
returns-then-this-eq1 g c = rw c.low-mask.ensures (window_one c.args.a.now c.args.x c.args.s c.args.w (omega (arith, c.requires.4 c.if-this-eq1.true)))
