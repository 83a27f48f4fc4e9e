use mathlib.Core.Path.{◌≡◌}
use Rattle.cells.specs.Counts.{sum}
use Rattle.walk.specs.Factors.{matrix_of}
use Rattle.walk.specs.Many.{row_of}
use Rattle.walk.proofs.factors.Packed.rows_many.Given as goal

abbrev pub invariant-loop-i : goal.invariant-loop-i
invariant-loop-i g l = l.steps ≡ sum 0 l.i (row_of l.self.columns l.k (matrix_of l.self) l.b l.n)
