use Rattle.rows.specs.Block.{block_of}
use Rattle.rows.proofs.BlockLaws.{ones_are, twos_are}
use Rattle.rows.proofs.block.block.Goals as goal

pub returns : goal.returns
unfolding block_of
returns g c =
    rw (
      ones_are c.args.a.now c.args.x c.args.q c.args.s c.args.w _ _ c.requires.4.legal c.requires.3 c.window-unit.ensures c.window-sign.ensures,
      twos_are c.args.a.now c.args.x c.args.q c.args.s c.args.w _ _ c.requires.4.legal c.requires.3 c.window-unit.ensures c.window-sign.ensures,
    )
