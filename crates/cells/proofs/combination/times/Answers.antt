-- The two formulas are right on the nine pairs of digits. Assumes nothing.
use Rattle.std.proofs.Common.{[], ◌∷◌, arith}
use Rattle.cells.specs.Digit.{mul3}
use Rattle.cells.proofs.FormLaws.{U, S, ◌&◌, ◌⊕◌, law, on2}
use Rattle.cells.proofs.combination.times.Goals as goal

pub returns : goal.returns
unfolding mul3
returns c =
    law (U 0 & U 1) ((S 0 & U 1) ⊕ (U 0 & S 1)) (on2 mul3) ((_, _) ∷ (_, _) ∷ []) tt (c.requires.0, (c.requires.1, tt)) ((omega arith, omega arith), ((omega arith, omega arith), tt))
