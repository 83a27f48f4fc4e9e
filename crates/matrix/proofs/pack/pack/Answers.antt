use Rattle.std.proofs.Common.{rules}
use mathlib.Core.Path.{sym}
use Rattle.matrix.specs.Pack.{pack_means}
use Rattle.matrix.proofs.PackLaws.{ready}
use Rattle.requests.proofs.AnswerLaws.{finished}
use Rattle.requests.proofs.WordLaws.{refused_by}
use Rattle.matrix.proofs.pack.pack.Goals as goal

pub returns-in_err-judged : goal.returns-in_err-judged
unfolding pack_means
returns-in_err-judged c = search (rules, refused_by)

pub pack_rows-requires : goal.pack_rows-requires
pack_rows-requires c =
    let r = ready c.args.s c.args.cells.now _ (sym c.in_ok-judged.ensures) in
    (r.rows, r.columns, r.long, r.room, r.small)

pub returns : goal.returns
unfolding pack_means
returns c = finished _ _ _ _ (sym c.in_ok-judged.ensures) c.pack_rows.ensures
