use Rattle.std.proofs.Common.{rules}
use mathlib.Core.Path.{sym}
use lib.ListN.{length}
use Rattle.std.proofs.lemmas.Result.{err_from_is_err_and}
use Rattle.cface.specs.Turn.{turn_face_tests, turn_face}
use Rattle.cface.proofs.CarryLaws.{unasked_by}
use Rattle.cface.proofs.JobCarryLaws.{turn_read, turn_unread, turn_room_a, turn_room_b, turn_room_table, turn_room_product, turn_done, turn_refused}
use Rattle.cface.proofs.turn.answer.Goals as goal

pub returns-in_err-found : goal.returns-in_err-found
returns-in_err-found c = search (rules, turn_unread)

pub returns-in_err-judged : goal.returns-in_err-judged
unfolding turn_face turn_face_tests
returns-in_err-judged c =
    let p = err_from_is_err_and c.from_residual-in_err-judged.result c.from_residual-in_err-judged.ensures.1 in
    let read = turn_read c.args.job.now c.args.a.now c.args.b.now c.args.table.now c.args.product.now _ c.in_ok-found.ensures in
    rw (p.1, p.2) (unasked_by _ _ _ _ _ (rw (read.1, ← read.0) at c.in_err-judged.ensures))

pub words_of-a_words-requires : goal.words_of-a_words-requires
words_of-a_words-requires c = turn_room_a c.in_ok-found.found _ c.args.a.now c.args.b.now (length c.args.table.now) (length c.args.product.now) (sym c.in_ok-judged.ensures)

pub words_of-b_words-requires : goal.words_of-b_words-requires
words_of-b_words-requires c = turn_room_b c.in_ok-found.found _ c.args.a.now c.args.b.now (length c.args.table.now) (length c.args.product.now) (sym c.in_ok-judged.ensures)

pub words_of-table_words-requires : goal.words_of-table_words-requires
words_of-table_words-requires c = turn_room_table c.in_ok-found.found _ c.args.a.now c.args.b.now (length c.args.table.now) (length c.args.product.now) (sym c.in_ok-judged.ensures)

pub words_of-product_words-requires : goal.words_of-product_words-requires
words_of-product_words-requires c = turn_room_product c.in_ok-found.found _ c.args.a.now c.args.b.now (length c.args.table.now) (length c.args.product.now) (sym c.in_ok-judged.ensures)

pub returns-in_err-turned : goal.returns-in_err-turned
returns-in_err-turned c =
    let p = err_from_is_err_and c.from_residual-in_err-turned.result c.from_residual-in_err-turned.ensures.1 in
    let read = turn_read c.args.job.now c.args.a.now c.args.b.now c.args.table.now c.args.product.now _ c.in_ok-found.ensures in
    let z = sym (rw (← read.0) at c.in_ok-judged.ensures) in
    rw (p.1, p.2)
    (turn_refused c.in_ok-found.found c.args.job.now c.args.a.now c.args.b.now c.args.table.now c.args.product.now _ _ _ _ _ _ _ read.1 z c.words_of-a_words.ensures.0 c.words_of-b_words.ensures.0 c.words_of-table_words.ensures.0 c.words_of-product_words.ensures.0 _ c.in_err-turned.ensures)

pub put_record-requires : goal.put_record-requires
put_record-requires c = (turn_read c.args.job.now c.args.a.now c.args.b.now c.args.table.now c.args.product.now _ c.in_ok-found.ensures).0

pub returns : goal.returns
returns c =
    let read = turn_read c.args.job.now c.args.a.now c.args.b.now c.args.table.now c.args.product.now _ c.in_ok-found.ensures in
    let z = sym (rw (← read.0) at c.in_ok-judged.ensures) in
    rw (c.put_record.ensures, c.bytes_of.ensures, c.bytes_of-2.ensures)
    (turn_done c.in_ok-found.found c.args.job.now c.args.a.now c.args.b.now c.args.table.now c.args.product.now _ _ _ _ _ _ _ read.1 z c.words_of-a_words.ensures.0 c.words_of-b_words.ensures.0 c.words_of-table_words.ensures.0 c.words_of-product_words.ensures.0 _ c.in_ok-turned.ensures)
