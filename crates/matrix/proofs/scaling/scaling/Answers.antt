use Rattle.std.proofs.Common.{rules}
use mathlib.Core.Path.{sym}
use Rattle.matrix.specs.Scaling.{scaling_means}
use Rattle.matrix.proofs.ScalingLaws.{ready}
use Rattle.requests.proofs.AnswerLaws.{finished}
use Rattle.requests.proofs.WordLaws.{refused_by}
use Rattle.matrix.proofs.scaling.scaling.Goals as goal

pub returns-in_err-judged : goal.returns-in_err-judged
unfolding scaling_means
returns-in_err-judged c = search (rules, refused_by)

pub new-packed-requires : goal.new-packed-requires
new-packed-requires c =
    let r = ready c.args.s c.args.d c.args.a.now _ (sym c.in_ok-judged.ensures) in
    (r.rows, r.columns, r.legal)

pub scaling_rows-requires : goal.scaling_rows-requires
scaling_rows-requires c =
    let r = ready c.args.s c.args.d c.args.a.now _ (sym c.in_ok-judged.ensures) in
    let packed = c.new-packed.ensures in
    (rw c.from.ensures r.digit, rw (packed.0, packed.1) r.room)

pub returns : goal.returns
unfolding scaling_means
returns c =
    let packed = c.new-packed.ensures in
    finished _ _ _ _ (sym c.in_ok-judged.ensures) (rw (packed.0, packed.1, packed.2, c.from.ensures) at c.scaling_rows.ensures)
