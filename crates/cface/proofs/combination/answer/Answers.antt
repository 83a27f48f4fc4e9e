use Rattle.std.proofs.Common.{rules}
use mathlib.Core.Path.{sym}
use lib.ListN.{length}
use native.Mathlib.Omega.{arith}
use Rattle.std.proofs.lemmas.Result.{err_from_is_err_and}
use Rattle.cface.specs.Pair.{pair_face_tests}
use Rattle.cface.specs.Combination.{combination_face}
use Rattle.cface.proofs.CarryLaws.{unasked_by, pair_digit, pair_room_a, pair_room_b, pair_room_out, combination_refused, combination_done}
use Rattle.cface.proofs.combination.answer.Goals as goal

pub returns-in_err-judged : goal.returns-in_err-judged
unfolding combination_face pair_face_tests
returns-in_err-judged c = search (rules, unasked_by)

pub words_of-a_words-requires : goal.words_of-a_words-requires
words_of-a_words-requires c = pair_room_a c.args.x c.args.y c.args.digit c.args.a.now c.args.b.now (length c.args.out.now) (sym c.in_ok-judged.ensures)

pub words_of-b_words-requires : goal.words_of-b_words-requires
words_of-b_words-requires c = pair_room_b c.args.x c.args.y c.args.digit c.args.a.now c.args.b.now (length c.args.out.now) (sym c.in_ok-judged.ensures)

pub room_for-out_words-requires : goal.room_for-out_words-requires
room_for-out_words-requires c = pair_room_out c.args.x c.args.y c.args.digit c.args.a.now c.args.b.now (length c.args.out.now) (sym c.in_ok-judged.ensures)

pub overflow_cast-digit : goal.overflow_cast-digit
overflow_cast-digit c =
    omega (arith, pair_digit c.args.x c.args.y c.args.digit c.args.a.now c.args.b.now (length c.args.out.now) (sym c.in_ok-judged.ensures))

pub returns-in_err-combination : goal.returns-in_err-combination
returns-in_err-combination c =
    let p = err_from_is_err_and c.from_residual-in_err-combination.result c.from_residual-in_err-combination.ensures.1 in
    rw (p.1, p.2) (combination_refused c.args.x c.args.y c.args.digit c.args.a.now c.args.b.now c.args.out.now _ _ _ _ (sym c.in_ok-judged.ensures) c.room_for-out_words.ensures c.words_of-a_words.ensures.0 c.words_of-b_words.ensures.0 _ c.in_err-combination.ensures)

pub returns : goal.returns
returns c =
    combination_done c.args.x c.args.y c.args.digit c.args.a.now c.args.b.now c.args.out.now _ _ _ _ (sym c.in_ok-judged.ensures) c.room_for-out_words.ensures c.words_of-a_words.ensures.0 c.words_of-b_words.ensures.0 _ c.bytes_of.ensures c.in_ok-combination.ensures
