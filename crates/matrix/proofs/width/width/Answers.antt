use Rattle.std.proofs.Common.{rules}
use mathlib.Core.Path.{sym}
use Rattle.requests.proofs.AnswerLaws.{finished}
use Rattle.requests.proofs.WordLaws.{refused_by}
use Rattle.matrix.specs.Width.{width_means}
use Rattle.matrix.proofs.JobLaws.{quote_ready}
use Rattle.matrix.proofs.width.width.Goals as goal

pub returns-in_err-judged : goal.returns-in_err-judged
unfolding width_means
returns-in_err-judged c = search (rules, refused_by)

pub meant-requires : goal.meant-requires
meant-requires c = (quote_ready _ c.args.width (sym c.in_ok-judged.ensures)).0

pub returns : goal.returns
unfolding width_means
returns c = finished _ _ _ _ (sym c.in_ok-judged.ensures) c.meant.ensures
