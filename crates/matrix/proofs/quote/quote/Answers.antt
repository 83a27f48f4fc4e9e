use Rattle.std.proofs.Common.{rules}
use mathlib.Core.Path.{sym, ap, ◌∙◌}
use Rattle.requests.proofs.AnswerLaws.{finished}
use Rattle.requests.proofs.WordLaws.{refused_by}
use Rattle.requests.proofs.SizeLaws.{over_rows, over_columns}
use Rattle.steps.specs.Count.{quote}
use Rattle.matrix.specs.Quote.{quote_means}
use Rattle.matrix.proofs.JobLaws.{meant_pos, meant_le, quote_ready}
use native.Mathlib.Omega.{arith}
use Rattle.matrix.proofs.quote.quote.Goals as goal

pub returns-in_err-judged : goal.returns-in_err-judged
unfolding quote_means
returns-in_err-judged c = search (rules, refused_by)

pub meant-requires : goal.meant-requires
meant-requires c = (quote_ready _ c.args.width (sym c.in_ok-judged.ensures)).0

pub quoted-requires : goal.quoted-requires
quoted-requires c =
    let r = quote_ready c.args.x c.args.width (sym c.in_ok-judged.ensures) in
    (over_rows _ r.0, over_columns _ r.0, omega (arith, c.meant.ensures, meant_pos c.args.x c.args.width), omega (arith, c.meant.ensures, meant_le c.args.x c.args.width r.1))

pub returns : goal.returns
unfolding quote_means
returns c =
    finished _ _ _ _ (sym c.in_ok-judged.ensures)
    (c.quoted.ensures ∙ ap (quote _ _) c.meant.ensures)
