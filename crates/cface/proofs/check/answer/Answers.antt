use Rattle.std.proofs.Common.{rules}
use mathlib.Core.Path.{sym, ◌∙◌}
use Rattle.cface.specs.Check.{check_face_tests, check_face}
use Rattle.cface.proofs.CarryLaws.{refused_first, check_room, check_same}
use Rattle.cface.proofs.check.answer.Goals as goal

pub returns-in_err-judged : goal.returns-in_err-judged
unfolding check_face check_face_tests
returns-in_err-judged c = search (rules, refused_first)

pub words_of-requires : goal.words_of-requires
words_of-requires c = check_room c.args.s c.args.a.now (sym c.in_ok-judged.ensures)

pub returns : goal.returns
returns c = c.check.ensures ∙ rw c.words_of.ensures.0 (check_same c.args.s c.args.a.now (sym c.in_ok-judged.ensures))
