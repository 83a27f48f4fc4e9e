use Rattle.matrix.specs.Job.{meant}
use Rattle.wordcalls.proofs.TurnsLaws.{Led}
use Rattle.wordcalls.proofs.turns.in_turns.Given as goal

abbrev pub invariant-loop-budget : goal.invariant-loop-budget
invariant-loop-budget l = Led l.fn.x l.fn.y (meant l.fn.x l.width) l.a l.b l.budgets l.budget-index l.job l.table l.product
