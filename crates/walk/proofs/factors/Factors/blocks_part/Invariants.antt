use lib.ListN.{length}
use Rattle.steps.specs.StepList.{each, block_at}
use Rattle.steps.specs.Turn.{due}
use Rattle.walk.specs.Spent.{Spent}
use Rattle.walk.specs.Factors.{Sized, RanFor, matrix_of}
use Rattle.walk.proofs.factors.Factors.blocks_part.Given as goal

abbrev pub invariant-loop-d : goal.invariant-loop-d
invariant-loop-d l =
    record {
      spent : Spent l.initial.rest (length (each l.c l.d (block_at l.self.a.rows l.self.a.columns l.self.width (matrix_of l.self.a)))) l.rest;
      ran : RanFor l.self (matrix_of l.self.b) (due l.initial.rest.skip l.initial.rest.budget (each l.c l.d (block_at l.self.a.rows l.self.a.columns l.self.width (matrix_of l.self.a)))) l.initial.table l.initial.product l.table l.product;
      sized : Sized l.self l.table l.product;
    }
