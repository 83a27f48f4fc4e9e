use mathlib.Core.Path.{refl}
use Rattle.rows.specs.Wide.{of_one}
use Rattle.rows.proofs.wide.of_one.Goals as goal

pub returns : goal.returns
unfolding of_one
returns c = refl
