use native.Mathlib.Omega.{arith}
use Rattle.walk.proofs.CountLaws.{shift_one}
use Rattle.walk.proofs.factors.Block.block_all.Goals as goal

pub overflow_shl-rows : goal.overflow_shl-rows
overflow_shl-rows c =
    let block = c.args.self.now in
    omega (arith, block.narrow, block.factors.narrow)

pub block_of-requires : goal.block_of-requires
block_of-requires c =
    let block = c.args.self.now in
    (c.requires, omega arith, shift_one block.width (omega (arith, block.narrow, block.factors.narrow)))

pub block_of-requires-else-self-eq1 : goal.block_of-requires-else-self-eq1
block_of-requires-else-self-eq1 c =
    let block = c.args.self.now in
    (c.requires, omega arith, shift_one block.width (omega (arith, block.narrow, block.factors.narrow)))
