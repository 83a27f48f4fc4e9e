use mathlib.Core.Path.{◌≡◌}
use Rattle.texts.specs.MatrixText.{lines_of}
use Rattle.texts.specs.Multiply.{laid}
use Rattle.texts.proofs.write.put_rows.Given as goal

abbrev pub invariant-loop-i : goal.invariant-loop-i
invariant-loop-i l = l.out ≡ laid (lines_of l.i l.within.size.columns l.held) l.initial.out
