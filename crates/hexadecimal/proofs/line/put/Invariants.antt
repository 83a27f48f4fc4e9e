use Prim.Native.Nat.{suc, ◌-◌}
use Rattle.hexadecimal.specs.Digit.{byte_of, nibble}
use Rattle.hexadecimal.proofs.LineLaws.{Filled}
use Rattle.hexadecimal.proofs.line.put.Given as goal

abbrev pub invariant-loop-k : goal.invariant-loop-k
invariant-loop-k l = Filled (λ i. byte_of (nibble l.v (l.n - suc i))) l.k l.line
