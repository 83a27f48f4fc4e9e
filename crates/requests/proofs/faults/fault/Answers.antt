use Rattle.requests.specs.Answers.{first}
use Rattle.requests.specs.Faults.{faults}
use Rattle.requests.proofs.SizeLaws.{over_rows, over_columns, unfit_long}
use Rattle.requests.proofs.faults.fault.Goals as goal

pub invariant_of-lent : goal.invariant_of-lent
invariant_of-lent c =
    record { rows_fit = over_rows _ c.requires.0; columns_fit = over_columns _ c.requires.0; whole = unfit_long _ _ c.requires.1 }

pub returns-in_default : goal.returns-in_default
unfolding faults first
returns-in_default c = rw (c.in_default.ensures.0, c.in_default.ensures.1)
