use mathlib.Core.List.{List, [], ◌∷◌}
use Prim.Native.Nat.{ℕ, ◌^◌}
use Rattle.buffers.specs.Buffer.{Legal, Words}
use Rattle.steps.specs.Step.{table_step}
use Rattle.steps.specs.StepList.{each}
use Rattle.walk.specs.Factors.{RanFor, matrix_of}
use Rattle.walk.proofs.factors.Block.table_rows.Given as goal

abbrev pub invariant-loop-x : goal.invariant-loop-x
invariant-loop-x l =
    record {
      ran : (p : List ℕ) → Legal l.self.factors.a.rows l.self.factors.b.columns p → Words p → RanFor l.self.factors (matrix_of l.self.factors.b) (each l.from l.x (λ x. table_step l.self.start x ∷ [])) l.initial.table p l.table p;
      legal : Legal (2 ^ l.self.factors.width) l.self.factors.b.columns l.table;
    }
