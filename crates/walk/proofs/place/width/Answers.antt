use Rattle.steps.proofs.Loops.{blocks_within}
use Rattle.steps.specs.StepList.{block_width}
use native.Mathlib.Omega.{arith}
use Rattle.walk.proofs.place.width.Goals as goal

pub overflow_mul-b : goal.overflow_mul-b
overflow_mul-b c = omega (arith, blocks_within _ _ _ c.requires.1 c.requires.3)

pub overflow_sub-l : goal.overflow_sub-l
overflow_sub-l c = omega (arith, blocks_within _ _ _ c.requires.1 c.requires.3)

pub returns : goal.returns
unfolding block_width
returns c = omega (arith, c.min.ensures)
