-- The two formulas are right on the three digits. Assumes nothing.
use Rattle.std.proofs.Common.{[], ◌∷◌, arith}
use Rattle.cells.specs.Digit.{neg3}
use Rattle.cells.proofs.FormLaws.{U, S, ◌⊕◌, law, on1}
use Rattle.cells.proofs.negation.negation.Goals as goal

pub returns : goal.returns
unfolding neg3
returns c = law (U 0) (U 0 ⊕ S 0) (on1 neg3) ((_, _) ∷ []) tt (c.requires, tt) ((omega arith, omega arith), tt)
