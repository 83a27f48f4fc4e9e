use mathlib.Core.Path.{refl}
use Rattle.cells.specs.Digit.{combine}
use Rattle.rows.proofs.RowLaws.{fewer, later, next}
use native.Mathlib.Omega.{arith}
use Rattle.rows.proofs.in_place.four.Goals as goal

pub two-requires : goal.two-requires
two-requires g c = (fewer c.requires.0 2 (omega arith), c.requires.1)

pub two-requires-2 : goal.two-requires-2
two-requires-2 g c = (later c.requires.0 c.two.ensures 2 (omega arith), c.requires.1)

pub returns : goal.returns
returns g c = next c.requires.0 (combine g.row.D) 4 refl (omega arith) c.two.ensures c.two-2.ensures
