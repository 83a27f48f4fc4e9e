use Rattle.blocks64.proofs.BlockLaws.{spread_cong, transposed_word_lem}
use native.Mathlib.Omega.{arith}
use Rattle.blocks64.proofs.block.through.Goals as goal

pub fetch-requires : goal.fetch-requires
fetch-requires c = (c.requires.0, omega (arith, c.requires.0.few))

pub put-requires : goal.put-requires
put-requires c = (c.requires.1, omega (arith, c.requires.1.few, c.transpose.ensures.long, c.fetch.ensures.long), c.requires.2)

pub returns : goal.returns
returns c = spread_cong _ _ _ _ _ _ _ (λ t l. transposed_word_lem _ _ _ _ _ _ _ c.requires.0.few c.requires.3 c.fetch.ensures c.transpose.ensures t (omega (arith, c.requires.1.few)) (c.put.ensures.1 t)) c.put.ensures.0
