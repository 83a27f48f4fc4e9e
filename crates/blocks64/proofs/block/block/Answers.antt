use Rattle.buffers.specs.Buffer.{tab}
use Rattle.blocks64.proofs.BlockLaws.{zeros_at}
use Rattle.blocks64.proofs.block.block.Goals as goal

pub through-requires : goal.through-requires
unfolding tab
through-requires c = (c.requires.0, c.requires.1, c.requires.2, λ t. zeros_at 64 t)
