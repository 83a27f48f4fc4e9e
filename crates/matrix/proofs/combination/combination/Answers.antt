use Rattle.std.proofs.Common.{rules}
use mathlib.Core.Path.{sym, ◌∙◌}
use Rattle.matrix.specs.Combination.{combination_means}
use Rattle.requests.proofs.PairLaws.{ready}
use Rattle.requests.proofs.AnswerLaws.{finished}
use Rattle.requests.proofs.WordLaws.{refused_by}
use Rattle.matrix.proofs.combination.combination.Goals as goal

pub returns-in_err-judged : goal.returns-in_err-judged
unfolding combination_means
returns-in_err-judged c = search (rules, refused_by)

pub new-requires : goal.new-requires
new-requires c =
    let r = ready c.args.x c.args.y c.args.d c.args.a.now c.args.b.now _ (sym c.in_ok-judged.ensures) in
    (r.rows, r.columns, r.left)

pub new-requires-2 : goal.new-requires-2
new-requires-2 c =
    let r = ready c.args.x c.args.y c.args.d c.args.a.now c.args.b.now _ (sym c.in_ok-judged.ensures) in
    (r.rows, r.columns, r.right)

pub combination_rows-requires : goal.combination_rows-requires
combination_rows-requires c =
    let r = ready c.args.x c.args.y c.args.d c.args.a.now c.args.b.now _ (sym c.in_ok-judged.ensures) in
    let first = c.new.ensures in
    let second = c.new-2.ensures in
    (second.0 ∙ sym first.0, second.1 ∙ sym first.1, rw c.from.ensures r.digit, rw (first.0, first.1) r.room)

pub returns : goal.returns
unfolding combination_means
returns c =
    let first = c.new.ensures in
    let second = c.new-2.ensures in
    finished _ _ _ _ (sym c.in_ok-judged.ensures) (rw (first.0, first.1, first.2, second.2, c.from.ensures) at c.combination_rows.ensures)
