use mathlib.Core.Path.{sym, ◌∙◌}
use mathlib.Core.List.{[], ◌∷◌}
use Rattle.std.proofs.lemmas.Result.{err_from_is_err_and}
use Rattle.requests.specs.Sizes.{over}
use Rattle.requests.proofs.AnswerLaws.{none_first, first_none, here}
use Rattle.cells.proofs.AnyLaws.{or_left}
use Rattle.cface.specs.Limit.{both_limit_tests}
use Rattle.matrix.proofs.JobLaws.{meant_le}
use Rattle.cface.proofs.JobCarryLaws.{width_given, width_refused, open_past, open_wide}
use native.Mathlib.Omega.{arith}
use Rattle.cface.proofs.open.judged.Goals as goal

pub returns-in_err-meant-clause-tested : goal.returns-in_err-meant-clause-tested
returns-in_err-meant-clause-tested c =
    let p = err_from_is_err_and c.from_residual-in_err-meant.result c.from_residual-in_err-meant.ensures.1 in
    let none = first_none (both_limit_tests c.args.x c.args.y) tt (sym c.in_ok-both_within.ensures) in
    let w = width_refused c.args.x c.args.width _ (or_left (over c.args.x) (over c.args.y) none.0) c.in_err-meant.ensures in
    rw (p.1, p.2) (w.1 ∙ sym (open_wide c.args.x c.args.y c.args.width _ _ _ _ _ c.if-job-ne-RECORD_BYTES.false (sym c.in_ok-both_within.ensures) c.if-x-y.false w.0))

pub misfit-requires : goal.misfit-requires
misfit-requires c =
    let w = width_given c.args.x c.args.width _ c.in_ok-meant.ensures in
    omega (arith, w.1, meant_le c.args.x c.args.width w.0)

pub returns-then-misfit-clause-tested : goal.returns-then-misfit-clause-tested
returns-then-misfit-clause-tested c =
    let w = width_given c.args.x c.args.width _ c.in_ok-meant.ensures in
    sym (open_past c.args.x c.args.y c.args.width _ _ _ _ _ c.if-job-ne-RECORD_BYTES.false (sym c.in_ok-both_within.ensures) c.if-x-y.false w.0 ∙ here _ 4 [] (sym (rw w.1 at c.if-misfit.ensures)))

pub returns-clause-tested : goal.returns-clause-tested
returns-clause-tested c =
    let w = width_given c.args.x c.args.width _ c.in_ok-meant.ensures in
    sym (open_past c.args.x c.args.y c.args.width _ _ _ _ _ c.if-job-ne-RECORD_BYTES.false (sym c.in_ok-both_within.ensures) c.if-x-y.false w.0 ∙ none_first (_ ∷ []) (sym (rw w.1 at c.if-misfit.ensures), tt))

pub returns-clause-width : goal.returns-clause-width
returns-clause-width c = (width_given c.args.x c.args.width _ c.in_ok-meant.ensures).1
