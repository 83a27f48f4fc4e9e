use Rattle.std.proofs.Common.{rules}
use mathlib.Core.Path.{sym}
use Rattle.requests.proofs.AnswerLaws.{finished}
use Rattle.requests.proofs.WordLaws.{refused_by}
use Rattle.requests.proofs.SizeLaws.{not_over}
use Rattle.matrix.specs.Total.{total_means}
use Rattle.matrix.proofs.JobLaws.{meant_pos, meant_le, total_ready}
use native.Mathlib.Omega.{arith}
use Rattle.matrix.proofs.total.total.Goals as goal

pub returns-in_err-judged : goal.returns-in_err-judged
unfolding total_means
returns-in_err-judged c = search (rules, refused_by)

pub meant-k-requires : goal.meant-k-requires
meant-k-requires c =
    let r = total_ready c.args.x c.args.width c.args.a.now (sym c.in_ok-judged.ensures) in
    not_over _ r.rows r.columns

pub new-packed-requires : goal.new-packed-requires
new-packed-requires c =
    let r = total_ready c.args.x c.args.width c.args.a.now (sym c.in_ok-judged.ensures) in
    (r.rows, r.columns, r.legal)

pub place-requires : goal.place-requires
place-requires c =
    let r = total_ready c.args.x c.args.width c.args.a.now (sym c.in_ok-judged.ensures) in
    (omega (arith, c.meant-k.ensures, meant_pos c.args.x c.args.width), omega (arith, c.meant-k.ensures, meant_le c.args.x c.args.width r.width))

pub returns : goal.returns
unfolding total_means
returns c =
    let packed = c.new-packed.ensures in
    finished _ _ _ _ (sym c.in_ok-judged.ensures) (rw (c.meant-k.ensures, packed.0, packed.1, packed.2) at c.place.ensures.total_is)
