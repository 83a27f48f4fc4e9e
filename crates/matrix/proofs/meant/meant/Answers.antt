use Rattle.requests.proofs.SizeLaws.{over_rows, over_columns}
use Rattle.matrix.specs.Job.{meant}
use Rattle.matrix.proofs.JobLaws.{meant_some}
use Rattle.matrix.proofs.meant.meant.Goals as goal

pub default_width-requires : goal.default_width-requires
default_width-requires c = (over_rows _ c.requires, over_columns _ c.requires)

pub returns-then-width-eq0 : goal.returns-then-width-eq0
unfolding meant
returns-then-width-eq0 c = rw c.if-width-eq0.true c.default_width.ensures

pub returns-else-width-eq0 : goal.returns-else-width-eq0
returns-else-width-eq0 c = meant_some _ _ c.if-width-eq0.false
