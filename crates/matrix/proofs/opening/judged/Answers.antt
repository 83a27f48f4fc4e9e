use Rattle.std.proofs.Common.{rules}
use Rattle.matrix.specs.Misfit.{misfit}
use Rattle.matrix.proofs.JobLaws.{meant_le}
use Rattle.matrix.proofs.opening.judged.Goals as goal

pub misfit-requires : goal.misfit-requires
misfit-requires c = search (rules, meant_le)

pub either_fault-requires : goal.either_fault-requires
unfolding misfit
either_fault-requires c = search rules
