use mathlib.Core.Path.{refl, sym, ◌∙◌}
use Prim.Native.Nat.{◌+◌}
use lib.ListN.{length-take, length-drop}
use Rattle.std.proofs.lemmas.Result.{err_from_is_err_and}
use Rattle.requests.proofs.WordLaws.{some_reason}
use Rattle.texts.proofs.TextLaws.{head_within, head_refused, after_head, tail}
use Rattle.texts.proofs.FoundLaws.{found}
use native.Mathlib.Omega.{arith}
use Rattle.texts.proofs.read.matrix_in.Goals as goal

pub returns-in_err-within-clause-reason : goal.returns-in_err-within-clause-reason
returns-in_err-within-clause-reason c =
    let p = err_from_is_err_and c.from_residual.result c.from_residual.ensures.1 in
    rw (p.1, p.2) (head_refused c.args.text.now _ _ _ c.in_err-within.ensures (some_reason _))

pub slice_bounds-rows_in-count : goal.slice_bounds-rows_in-count
slice_bounds-rows_in-count c = head_within c.args.text.now _ _ _ c.in_ok-within.ensures refl

pub slice_bounds-rows_in-start : goal.slice_bounds-rows_in-start
slice_bounds-rows_in-start c = omega (arith, head_within c.args.text.now _ _ _ c.in_ok-within.ensures refl)

pub rows_in-requires : goal.rows_in-requires
rows_in-requires c = length-take c.long.result c.args.held.now ∙ omega (arith, c.long.ensures)

pub returns-in_err-rows_in-clause-reason : goal.returns-in_err-rows_in-clause-reason
returns-in_err-rows_in-clause-reason c =
    let p = err_from_is_err_and c.from_residual-in_err-rows_in.result c.from_residual-in_err-rows_in.ensures.1 in
    rw (p.1, p.2) (rw (tail c.args.text.now 9 (head_within c.args.text.now _ _ _ c.in_ok-within.ensures refl)) at c.in_err-rows_in.ensures.reason ∙ sym (after_head c.args.text.now _ _ _ c.in_ok-within.ensures refl))

pub slice_bounds-result-count : goal.slice_bounds-result-count
slice_bounds-result-count c =
    let room = head_within c.args.text.now _ _ _ c.in_ok-within.ensures refl in
    omega (arith, rw (tail c.args.text.now 9 room) at c.in_ok-rows_in.ensures.done.0, length-drop 9 c.args.text.now, room, c.lines_long.ensures.0)

pub slice_bounds-result-start : goal.slice_bounds-result-start
slice_bounds-result-start c =
    let room = head_within c.args.text.now _ _ _ c.in_ok-within.ensures refl in
    omega (arith, rw (tail c.args.text.now 9 room) at c.in_ok-rows_in.ensures.done.0, length-drop 9 c.args.text.now, room, c.lines_long.ensures.0)

pub returns-clause-reason : goal.returns-clause-reason
returns-clause-reason c = rw (tail c.args.text.now 9 (head_within c.args.text.now _ _ _ c.in_ok-within.ensures refl)) at c.in_ok-rows_in.ensures.reason ∙ sym (after_head c.args.text.now _ _ _ c.in_ok-within.ensures refl)

pub returns-clause-done : goal.returns-clause-done
returns-clause-done c =
    let room = head_within c.args.text.now _ _ _ c.in_ok-within.ensures refl in
    let done = rw (tail c.args.text.now 9 room) at c.in_ok-rows_in.ensures.done in
    found c.args.text.now c.in_ok-within.within.size c.long.result c.lines_long.result c.args.held.now c.rows_in.new.held _ c.in_ok-within.ensures c.long.ensures.0 c.lines_long.ensures.0 done.1
    (tail c.args.text.now (9 + c.lines_long.result) (omega (arith, done.0, length-drop 9 c.args.text.now, room, c.lines_long.ensures.0)))
