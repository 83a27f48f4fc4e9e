use Rattle.std.proofs.Common.{rules}
use mathlib.Core.Path.{sym, ◌∙◌}
use lib.ListN.{length}
use Rattle.std.proofs.lemmas.Result.{err_from_is_err_and}
use Rattle.cface.specs.Open.{open_face_tests, open_face}
use Rattle.cface.proofs.CarryLaws.{unasked_by}
use Rattle.cface.proofs.JobCarryLaws.{open_record, open_room_a, open_room_b, open_room_table, open_room_product, asked_sizes, asked_open, open_done, open_refused}
use Rattle.cface.proofs.open.answer.Goals as goal

pub returns-in_err-meant : goal.returns-in_err-meant
unfolding open_face open_face_tests
returns-in_err-meant c = search (rules, unasked_by)

pub words_of-a_words-requires : goal.words_of-a_words-requires
words_of-a_words-requires c = open_room_a c.args.x c.args.y c.args.width _ c.args.a.now c.args.b.now (length c.args.table.now) (length c.args.product.now) (sym c.in_ok-meant.ensures.tested)

pub words_of-b_words-requires : goal.words_of-b_words-requires
words_of-b_words-requires c = open_room_b c.args.x c.args.y c.args.width _ c.args.a.now c.args.b.now (length c.args.table.now) (length c.args.product.now) (sym c.in_ok-meant.ensures.tested)

pub room_for-table_words-requires : goal.room_for-table_words-requires
room_for-table_words-requires c = open_room_table c.args.x c.args.y c.args.width _ c.args.a.now c.args.b.now (length c.args.table.now) (length c.args.product.now) (sym c.in_ok-meant.ensures.tested)

pub room_for-product_words-requires : goal.room_for-product_words-requires
room_for-product_words-requires c = open_room_product c.args.x c.args.y c.args.width _ c.args.a.now c.args.b.now (length c.args.table.now) (length c.args.product.now) (sym c.in_ok-meant.ensures.tested)

pub returns-in_err-new : goal.returns-in_err-new
returns-in_err-new c =
    let p = err_from_is_err_and c.from_residual-in_err-new.result c.from_residual-in_err-new.ensures.1 in
    let z = asked_sizes c.args.x c.args.y c.args.width c.in_ok-meant.meant c.args.job.now c.args.a.now c.args.b.now c.args.table.now c.args.product.now (sym c.in_ok-meant.ensures.tested) c.in_ok-meant.ensures.width in
    rw (p.1, p.2)
    (open_refused c.args.x c.args.y c.in_ok-meant.meant c.args.job.now c.args.a.now c.args.b.now c.args.table.now c.args.product.now _ _ _ _ _ _ z c.room_for-table_words.ensures c.room_for-product_words.ensures c.words_of-a_words.ensures.0 c.words_of-b_words.ensures.0 _ c.in_err-new.ensures
    ∙ asked_open c.args.x c.args.y c.args.width c.in_ok-meant.meant c.args.job.now c.args.a.now c.args.b.now c.args.table.now c.args.product.now (sym c.in_ok-meant.ensures.tested) c.in_ok-meant.ensures.width)

pub put_record-requires : goal.put_record-requires
put_record-requires c = open_record c.args.x c.args.y c.args.width _ c.args.a.now c.args.b.now _ _ (sym c.in_ok-meant.ensures.tested)

pub returns : goal.returns
returns c =
    let z = asked_sizes c.args.x c.args.y c.args.width c.in_ok-meant.meant c.args.job.now c.args.a.now c.args.b.now c.args.table.now c.args.product.now (sym c.in_ok-meant.ensures.tested) c.in_ok-meant.ensures.width in
    rw (c.put_record.ensures, c.bytes_of.ensures, c.bytes_of-2.ensures)
    (open_done c.args.x c.args.y c.in_ok-meant.meant c.args.job.now c.args.a.now c.args.b.now c.args.table.now c.args.product.now _ _ _ _ _ _ z c.room_for-table_words.ensures c.room_for-product_words.ensures c.words_of-a_words.ensures.0 c.words_of-b_words.ensures.0 _ c.in_ok-new.ensures
    ∙ asked_open c.args.x c.args.y c.args.width c.in_ok-meant.meant c.args.job.now c.args.a.now c.args.b.now c.args.table.now c.args.product.now (sym c.in_ok-meant.ensures.tested) c.in_ok-meant.ensures.width)
