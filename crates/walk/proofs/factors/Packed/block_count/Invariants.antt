use mathlib.Core.Path.{◌≡◌}
use Prim.Native.Nat.{◌+◌, ◌-◌, ◌^◌}
use Rattle.cells.specs.Counts.{sum}
use Rattle.steps.specs.Count.{row_count}
use Rattle.walk.specs.Factors.{matrix_of}
use Rattle.walk.proofs.factors.Packed.block_count.Given as goal

abbrev pub invariant-loop-i : goal.invariant-loop-i
invariant-loop-i l = l.n ≡ (2 ^ l.w - 1) + sum 0 l.i (row_count (matrix_of l.self) l.s l.w)
