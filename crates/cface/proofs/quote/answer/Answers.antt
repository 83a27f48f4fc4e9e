use Rattle.std.proofs.Common.{rules}
use mathlib.Core.Path.{sym, ◌∙◌}
use mathlib.Core.List.{[], ◌∷◌}
use Rattle.std.proofs.lemmas.Result.{err_from_is_err_and}
use Rattle.steps.specs.Count.{quote}
use Rattle.matrix.specs.Job.{meant}
use Rattle.matrix.specs.Quote.{quote_means}
use Rattle.wordbytes.specs.Bytes.{bytes_of}
use Rattle.cface.specs.Quote.{quote_face}
use Rattle.cface.proofs.CountLaws.{count_limited, count_refused, count_left}
use Rattle.cface.proofs.quote.answer.Goals as goal

pub returns-in_err-within : goal.returns-in_err-within
unfolding quote_face
returns-in_err-within c = search (rules, count_limited)

pub returns-in_err-steps : goal.returns-in_err-steps
unfolding quote_means quote_face
returns-in_err-steps c =
    let p = err_from_is_err_and c.from_residual-in_err-steps.result c.from_residual-in_err-steps.ensures.1 in
    rw (p.1, p.2) (count_refused c.args.x c.args.width c.args.out.now _ (sym c.in_ok-within.ensures) (quote c.args.x.rows c.args.x.columns (meant c.args.x c.args.width)) _ c.in_err-steps.ensures)

pub returns : goal.returns
unfolding quote_means quote_face
returns c =
    let counted = count_left c.args.x c.args.width c.args.out.now (bytes_of (quote c.args.x.rows c.args.x.columns (meant c.args.x c.args.width) ∷ [])) (sym c.in_ok-within.ensures) (quote c.args.x.rows c.args.x.columns (meant c.args.x c.args.width)) _ c.in_ok-steps.ensures in
    (rw counted.0 at c.put_count.ensures) ∙ counted.1
