use Prim.Native.Nat.{◌*◌}
use Rattle.hexadecimal.specs.Line.{value_of}
use Rattle.hexadecimal.proofs.LineLaws.{Filled}
use Rattle.frames.proofs.row_line.read_words.Given as goal

abbrev pub invariant-loop-p : goal.invariant-loop-p
invariant-loop-p l = Filled (λ i. value_of l.line (i * 16) 16) l.p l.words
