-- The job stands where the budgets so far reach. Assumes nothing.
use Rattle.bytecalls.proofs.RunLaws.{StoodAt}
use Rattle.bytecalls.proofs.face.turns.seen_turns.Given as goal

abbrev pub invariant-loop-budget : goal.invariant-loop-budget
invariant-loop-budget l =
    StoodAt (record { rows = l.fn.a_rows; columns = l.fn.a_columns }) (record { rows = l.fn.b_rows; columns = l.fn.b_columns }) l.fn.width l.a l.b l.budgets l.budget-index (l.job, (l.table, l.product))
