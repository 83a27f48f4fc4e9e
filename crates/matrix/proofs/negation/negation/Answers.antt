use Rattle.std.proofs.Common.{rules}
use mathlib.Core.Path.{sym}
use Rattle.matrix.specs.Negation.{negation_means}
use Rattle.requests.proofs.SingleLaws.{ready}
use Rattle.requests.proofs.AnswerLaws.{finished}
use Rattle.requests.proofs.WordLaws.{refused_by}
use Rattle.matrix.proofs.negation.negation.Goals as goal

pub returns-in_err-judged : goal.returns-in_err-judged
unfolding negation_means
returns-in_err-judged c = search (rules, refused_by)

pub new-packed-requires : goal.new-packed-requires
new-packed-requires c =
    let r = ready c.args.s c.args.s c.args.a.now _ (sym c.in_ok-judged.ensures) in
    (r.rows, r.columns, r.legal)

pub negation_rows-requires : goal.negation_rows-requires
negation_rows-requires c =
    let r = ready c.args.s c.args.s c.args.a.now _ (sym c.in_ok-judged.ensures) in
    let packed = c.new-packed.ensures in
    rw (packed.0, packed.1) r.room

pub returns : goal.returns
unfolding negation_means
returns c =
    let packed = c.new-packed.ensures in
    finished _ _ _ _ (sym c.in_ok-judged.ensures) (rw (packed.0, packed.1, packed.2) at c.negation_rows.ensures)
