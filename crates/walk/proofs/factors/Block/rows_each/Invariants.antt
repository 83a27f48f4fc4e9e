use Rattle.cells.specs.Digit.{Matrix}
use Rattle.steps.specs.StepList.{each}
use Rattle.walk.specs.Factors.{Sized, RanFor, row_list}
use Rattle.walk.proofs.factors.Block.rows_each.Given as goal

abbrev pub invariant-loop-i : goal.invariant-loop-i
invariant-loop-i g l =
    record {
      ran : (B : Matrix) → RanFor l.self.factors B (each 0 l.i (row_list l.self)) l.table l.initial.product l.table l.product;
      sized : Sized l.self.factors l.table l.product;
    }
