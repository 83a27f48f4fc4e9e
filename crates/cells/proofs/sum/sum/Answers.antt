-- Zero and minus are right on the nine pairs of digits. Assumes nothing.
use Rattle.std.proofs.Common.{[], ◌∷◌, arith}
use Rattle.cells.specs.Digit.{combine}
use Rattle.cells.proofs.FormLaws.{Form, Plus, Minus, Zero, !◌, ◌&◌, ◌⊕◌, law, on2}
use Rattle.cells.proofs.sum.sum.Goals as goal

abbrev zero : Form
zero = ! (Zero 0 ⊕ Zero 1) & ! (Minus 0 ⊕ Plus 1)

abbrev minus : Form
minus = ! (Zero 0 ⊕ Minus 1) & ! (Plus 0 ⊕ Plus 1)

pub returns : goal.returns
unfolding combine
returns c =
    law (! zero) minus (on2 (combine 1)) ((_, _) ∷ (_, _) ∷ []) tt (c.requires.0, (c.requires.1, tt)) ((omega arith, omega arith), ((omega arith, omega arith), tt))
