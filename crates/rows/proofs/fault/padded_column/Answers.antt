use mathlib.Core.Path.{◌∙◌}
use Rattle.cells.proofs.LeastLaws.{least_first}
use Rattle.buffers.proofs.SizeLaws.{planes_le}
use Rattle.rows.proofs.FaultLaws.{padded_last, padded_partly, padded_some_word, padded_first_lem}
use native.Mathlib.Omega.{arith}
use Rattle.rows.proofs.fault.padded_column.Goals as goal

pub overflow_sub-q : goal.overflow_sub-q
overflow_sub-q c = omega (arith, padded_some_word _ _ _ _ c.requires.0 c.requires.3)

pub load-v-requires : goal.load-v-requires
load-v-requires c = omega (arith, padded_some_word _ _ _ _ c.requires.0 c.requires.3)

pub overflow_sub-result : goal.overflow_sub-result
overflow_sub-result c = omega (arith, padded_some_word _ _ _ _ c.requires.0 c.requires.3)

pub overflow_mul-result : goal.overflow_mul-result
overflow_mul-result c = omega (arith, planes_le _ c.requires.1)

pub first_padded-requires : goal.first_padded-requires
first_padded-requires c = (omega arith, padded_last _ _ _ _ _ _ c.requires.0 (padded_partly _ _ _ _ c.requires.0 c.requires.3) c.load-v.ensures.0 c.load-v.ensures.1 ∙ c.requires.3)

pub overflow_add-result : goal.overflow_add-result
overflow_add-result c =
    omega (arith, planes_le _ c.requires.1, c.first_padded.ensures, (least_first _ _ (padded_last _ _ _ _ _ _ c.requires.0 (padded_partly _ _ _ _ c.requires.0 c.requires.3) c.load-v.ensures.0 c.load-v.ensures.1 ∙ c.requires.3)).within)

pub returns : goal.returns
returns c = rw c.first_padded.ensures (padded_first_lem _ _ _ _ _ _ c.requires.0 (padded_partly _ _ _ _ c.requires.0 c.requires.3) c.load-v.ensures.0 c.load-v.ensures.1)
