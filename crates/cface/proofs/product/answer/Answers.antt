use Rattle.std.proofs.Common.{rules}
use mathlib.Core.Path.{sym}
use lib.ListN.{length}
use native.Mathlib.Omega.{arith}
use Rattle.std.proofs.lemmas.Result.{err_from_is_err_and}
use Rattle.cface.specs.Product.{product_face_tests, product_face}
use Rattle.cface.proofs.CarryLaws.{unasked_by}
use Rattle.cface.proofs.JobCarryLaws.{own_width, own_width_given, product_limits, product_room_a, product_room_b, product_room_out, product_refused, product_done}
use Rattle.cface.proofs.product.answer.Goals as goal

pub returns-in_err-judged : goal.returns-in_err-judged
unfolding product_face product_face_tests
returns-in_err-judged c = search (rules, unasked_by)

pub returns-in_err-k : goal.returns-in_err-k
returns-in_err-k c =
    let limits = product_limits c.args.x c.args.y c.args.a.now c.args.b.now (length c.args.out.now) (sym c.in_ok-judged.ensures) in
    absurd (own_width_given c.args.x limits.0 limits.1 _ c.in_err-k.ensures)

pub words_of-a_words-requires : goal.words_of-a_words-requires
words_of-a_words-requires c = product_room_a c.args.x c.args.y c.args.a.now c.args.b.now (length c.args.out.now) (sym c.in_ok-judged.ensures)

pub words_of-b_words-requires : goal.words_of-b_words-requires
words_of-b_words-requires c = product_room_b c.args.x c.args.y c.args.a.now c.args.b.now (length c.args.out.now) (sym c.in_ok-judged.ensures)

pub own_table-table-requires : goal.own_table-table-requires
own_table-table-requires c =
    let limits = product_limits c.args.x c.args.y c.args.a.now c.args.b.now (length c.args.out.now) (sym c.in_ok-judged.ensures) in
    ((own_width c.args.x limits.0 limits.1 _ c.in_ok-k.ensures).1, limits.2, omega arith)

pub room_for-out_words-requires : goal.room_for-out_words-requires
room_for-out_words-requires c = product_room_out c.args.x c.args.y c.args.a.now c.args.b.now (length c.args.out.now) (sym c.in_ok-judged.ensures)

pub returns-in_err-product : goal.returns-in_err-product
returns-in_err-product c =
    let p = err_from_is_err_and c.from_residual-in_err-product.result c.from_residual-in_err-product.ensures.1 in
    let limits = product_limits c.args.x c.args.y c.args.a.now c.args.b.now (length c.args.out.now) (sym c.in_ok-judged.ensures) in
    rw (p.1, p.2)
    (product_refused c.args.x c.args.y c.in_ok-k.k c.args.a.now c.args.b.now c.args.out.now _ _ _ _ _ _ (sym c.in_ok-judged.ensures) (own_width c.args.x limits.0 limits.1 _ c.in_ok-k.ensures) c.own_table-table.ensures c.room_for-out_words.ensures c.words_of-a_words.ensures.0 c.words_of-b_words.ensures.0 _ c.in_err-product.ensures)

pub returns : goal.returns
returns c =
    let limits = product_limits c.args.x c.args.y c.args.a.now c.args.b.now (length c.args.out.now) (sym c.in_ok-judged.ensures) in
    product_done c.args.x c.args.y c.in_ok-k.k c.args.a.now c.args.b.now c.args.out.now _ _ _ _ _ _ (sym c.in_ok-judged.ensures) (own_width c.args.x limits.0 limits.1 _ c.in_ok-k.ensures) c.own_table-table.ensures c.room_for-out_words.ensures c.words_of-a_words.ensures.0 c.words_of-b_words.ensures.0 _ c.bytes_of.ensures c.in_ok-product.ensures
