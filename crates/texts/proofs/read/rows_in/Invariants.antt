use mathlib.Core.Path.{◌≡◌}
use mathlib.Core.Bool.{false}
use Prim.Native.Nat.{◌*◌, ◌≤◌}
use lib.ListN.{length}
use Rattle.texts.specs.MatrixText.{misread, words_read}
use Rattle.texts.specs.Multiply.{laid}
use Rattle.texts.proofs.read.rows_in.Given as goal

abbrev pub invariant-loop-i : goal.invariant-loop-i
invariant-loop-i l = record {
  reached : l.i * l.line ≤ length l.text;
  read : misread l.i l.within.size.columns l.text ≡ false;
  words_are : l.held ≡ laid (words_read l.i l.within.size.columns l.text) l.initial.held;
}
