use Rattle.std.proofs.lemmas.Result.{err_from_is_err_and}
use Rattle.requests.specs.Answers.{first}
use Rattle.matrix.specs.Turn.{size_a, size_b}
use Rattle.cface.specs.Turn.{turn_sizes}
use Rattle.cface.specs.Record.{unfit_record}
use Rattle.cface.proofs.LimitLaws.{both_limit_given}
use Rattle.cface.proofs.turn.judged.Goals as goal

pub returns-in_err-both_within : goal.returns-in_err-both_within
unfolding turn_sizes unfit_record first
returns-in_err-both_within c =
    let p = err_from_is_err_and c.from_residual.result c.from_residual.ensures.1 in
    rw (p.1, p.2) (both_limit_given (size_a c.args.job) (size_b c.args.job) _ _ (rw (c.size_a-x.ensures, c.size_b-y.ensures) at c.in_err-both_within.ensures))
