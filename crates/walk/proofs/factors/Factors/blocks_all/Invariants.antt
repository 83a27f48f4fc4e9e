use Rattle.steps.specs.StepList.{each, block_at}
use Rattle.walk.specs.Factors.{Sized, RanFor, matrix_of}
use Rattle.walk.proofs.factors.Factors.blocks_all.Given as goal

abbrev pub invariant-loop-c : goal.invariant-loop-c
invariant-loop-c l =
    record {
      ran : RanFor l.self (matrix_of l.self.b) (each 0 l.c (block_at l.self.a.rows l.self.a.columns l.self.width (matrix_of l.self.a))) l.initial.table l.initial.product l.table l.product;
      sized : Sized l.self l.table l.product;
    }
