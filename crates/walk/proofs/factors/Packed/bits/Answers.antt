use mathlib.Core.Path.{ap, ◌∙◌}
use Rattle.rows.specs.declared.block.Bits.{Bits}
use Rattle.rows.specs.Block.{block_of}
use Rattle.buffers.proofs.SizeLaws.{planes_le, planes_room, words_le, row_fits}
use Rattle.rows.proofs.MatrixLaws.{row_readable}
use Rattle.walk.proofs.CountLaws.{bits_are}
use native.Mathlib.Omega.{arith}
use Rattle.walk.proofs.factors.Packed.bits.Goals as goal

pub overflow_mul-self : goal.overflow_mul-self
overflow_mul-self g c =
    let a = c.args.self.now in
    omega (arith, a.whole_plane, planes_le _ a.few_columns)

pub overflow_mul-i : goal.overflow_mul-i
overflow_mul-i g c =
    let a = c.args.self.now in
    omega (arith, row_fits _ _ c.args.i _ _ a.whole_plane a.legal.long c.requires.0, words_le _ _ a.few_rows a.few_columns)

pub block-requires : goal.block-requires
block-requires g c =
    let a = c.args.self.now in
    (c.requires.1, c.requires.2, omega (arith, c.requires.3, a.few_columns), omega (arith, c.requires.3, a.whole_plane, planes_room a.columns), row_readable _ _ c.args.i _ _ a.whole_plane a.legal a.fit c.requires.0, c.requires.4)

pub returns : goal.returns
unfolding block_of
returns g c =
    let a = c.args.self.now in (
      ap (λ (b : Bits). b.ones) c.block.ensures ∙ bits_are 1 a.columns c.args.i a.plane c.args.s c.args.w a.words.now a.whole_plane,
      ap (λ (b : Bits). b.twos) c.block.ensures ∙ bits_are 2 a.columns c.args.i a.plane c.args.s c.args.w a.words.now a.whole_plane,
    )
