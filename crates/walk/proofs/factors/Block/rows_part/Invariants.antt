use lib.ListN.{length}
use Rattle.cells.specs.Digit.{Matrix}
use Rattle.steps.specs.StepList.{each}
use Rattle.steps.specs.Turn.{due}
use Rattle.walk.specs.Spent.{Spent}
use Rattle.walk.specs.Factors.{Sized, RanFor, row_list}
use Rattle.walk.proofs.factors.Block.rows_part.Given as goal

abbrev pub invariant-loop-i : goal.invariant-loop-i
invariant-loop-i l =
    record {
      spent : Spent l.initial.rest (length (each 0 l.i (row_list l.self))) l.rest;
      ran : (B : Matrix) → RanFor l.self.factors B (due l.initial.rest.skip l.initial.rest.budget (each 0 l.i (row_list l.self))) l.table l.initial.product l.table l.product;
      sized : Sized l.self.factors l.table l.product;
    }
