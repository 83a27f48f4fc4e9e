use Rattle.cells.specs.Digit.{mul3}
use Rattle.rows.specs.Row.{of1, Made}
use Rattle.rows.proofs.scaling.scaling.Given as goal

abbrev pub invariant-loop-p : goal.invariant-loop-p
invariant-loop-p l = Made (of1 (λ a. mul3 a l.d) l.q l.a l.y) l.x l.q l.p l.initial.out l.out
