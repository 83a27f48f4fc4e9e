use Rattle.std.proofs.Common.{◌≡◌, ◌-◌, ◌%◌, ◌≤◌}
use Rattle.cells.specs.Digit.{combine}
use Rattle.rows.specs.Row.{of2, Made}
use Rattle.rows.proofs.accumulate.accumulate_long.Given as goal

abbrev pub invariant-loop-j : goal.invariant-loop-j
invariant-loop-j g l = (l.j ≤ l.end) × (l.j % 4 ≡ 0) × Made (of2 (combine g.row.D) l.q l.initial.t l.y l.b l.z) l.x l.q l.j l.initial.t l.t

abbrev pub decreases-loop-j : goal.decreases-loop-j
decreases-loop-j g l = l.end - l.j
