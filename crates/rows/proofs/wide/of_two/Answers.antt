use mathlib.Core.Path.{refl}
use Rattle.rows.specs.Wide.{of_two}
use Rattle.rows.proofs.wide.of_two.Goals as goal

pub returns : goal.returns
unfolding of_two
returns c = refl
