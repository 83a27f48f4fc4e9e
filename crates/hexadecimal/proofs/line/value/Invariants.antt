use mathlib.Core.Path.{◌≡◌}
use Rattle.hexadecimal.specs.Line.{value_of}
use Rattle.hexadecimal.proofs.line.value.Given as goal

abbrev pub invariant-loop-b : goal.invariant-loop-b
invariant-loop-b l = l.v ≡ value_of l.digits 0 l.b-index
