use Rattle.steps.specs.Count.{quote}
use Rattle.matrix.proofs.WidthLaws.{better_new, better_old}
use native.Mathlib.Omega.{arith}
use Rattle.matrix.proofs.default_width.better_of.Goals as goal

pub returns-then-steps-best : goal.returns-then-steps-best
returns-then-steps-best c = (better_new (quote _ _) _ _ _ _ c.quoted-steps.ensures c.requires.4 c.if-steps-best.true, c.quoted-steps.ensures)

pub returns : goal.returns
returns c = (better_old (quote _ _) _ _ _ _ c.quoted-steps.ensures c.requires.4 (omega (arith, c.if-steps-best.false)), c.requires.4)
