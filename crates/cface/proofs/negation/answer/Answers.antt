use Rattle.std.proofs.Common.{rules}
use mathlib.Core.Path.{sym}
use lib.ListN.{length}
use Rattle.std.proofs.lemmas.Result.{err_from_is_err_and}
use Rattle.cface.specs.Negation.{negation_face_tests, negation_face}
use Rattle.cface.proofs.CarryLaws.{unasked_by, negation_room_a, negation_room_out, negation_refused, negation_done}
use Rattle.cface.proofs.negation.answer.Goals as goal

pub returns-in_err-judged : goal.returns-in_err-judged
unfolding negation_face negation_face_tests
returns-in_err-judged c = search (rules, unasked_by)

pub words_of-a_words-requires : goal.words_of-a_words-requires
words_of-a_words-requires c = negation_room_a c.args.s c.args.a.now (length c.args.out.now) (sym c.in_ok-judged.ensures)

pub room_for-out_words-requires : goal.room_for-out_words-requires
room_for-out_words-requires c = negation_room_out c.args.s c.args.a.now (length c.args.out.now) (sym c.in_ok-judged.ensures)

pub returns-in_err-negation : goal.returns-in_err-negation
returns-in_err-negation c =
    let p = err_from_is_err_and c.from_residual-in_err-negation.result c.from_residual-in_err-negation.ensures.1 in
    rw (p.1, p.2) (negation_refused c.args.s c.args.a.now c.args.out.now _ _ _ (sym c.in_ok-judged.ensures) c.room_for-out_words.ensures c.words_of-a_words.ensures.0 _ c.in_err-negation.ensures)

pub returns : goal.returns
returns c =
    negation_done c.args.s c.args.a.now c.args.out.now _ _ _ (sym c.in_ok-judged.ensures) c.room_for-out_words.ensures c.words_of-a_words.ensures.0 _ c.bytes_of.ensures c.in_ok-negation.ensures
