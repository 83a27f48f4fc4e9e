use mathlib.Core.Path.{◌≡◌}
use Prim.Native.Nat.{◌≤◌}
use Rattle.walk.specs.Factors.{matrix_of}
use Rattle.cells.specs.Counts.{sum}
use Rattle.steps.specs.Count.{count_at}
use Rattle.walk.proofs.CountLaws.{Last}
use Rattle.walk.proofs.factors.Packed.place.Given as goal

abbrev pub invariant-loop-b : goal.invariant-loop-b
invariant-loop-b l =
    record {
      total : l.total ≡ sum 0 l.b (count_at l.self.rows l.self.columns l.k (matrix_of l.self));
      before : l.before ≡ sum 0 l.block (count_at l.self.rows l.self.columns l.k (matrix_of l.self));
      begun : l.before ≤ l.done;
      within : l.block ≤ l.b;
      last : Last l.self.rows l.self.columns l.k (matrix_of l.self) l.done l.block l.b;
    }
