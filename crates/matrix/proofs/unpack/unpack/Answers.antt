use Rattle.std.proofs.Common.{rules}
use mathlib.Core.Path.{sym}
use Rattle.matrix.specs.Unpack.{unpack_means}
use Rattle.matrix.proofs.UnpackLaws.{ready}
use Rattle.requests.proofs.AnswerLaws.{finished}
use Rattle.requests.proofs.WordLaws.{refused_by}
use Rattle.matrix.proofs.unpack.unpack.Goals as goal

pub returns-in_err-judged : goal.returns-in_err-judged
unfolding unpack_means
returns-in_err-judged c = search (rules, refused_by)

pub new-packed-requires : goal.new-packed-requires
new-packed-requires c =
    let r = ready c.args.s c.args.a.now _ (sym c.in_ok-judged.ensures) in
    (r.rows, r.columns, r.legal)

pub unpack_rows-requires : goal.unpack_rows-requires
unpack_rows-requires c =
    let r = ready c.args.s c.args.a.now _ (sym c.in_ok-judged.ensures) in
    let packed = c.new-packed.ensures in
    rw (packed.0, packed.1) r.room

pub returns : goal.returns
unfolding unpack_means
returns c =
    let packed = c.new-packed.ensures in
    finished _ _ _ _ (sym c.in_ok-judged.ensures) (rw (packed.0, packed.1, packed.2) at c.unpack_rows.ensures)
