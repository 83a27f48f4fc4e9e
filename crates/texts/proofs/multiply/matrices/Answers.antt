use mathlib.Core.Path.{refl, sym, ap, ◌∙◌}
use mathlib.Core.List.{List}
use mathlib.Core.Logic.{◌≢◌}
use Prim.Native.Nat.{ℕ}
use lib.ListN.{length}
use borrow.Author.Tests.{eqb-true}
use Rattle.std.proofs.lemmas.Bool.{eqb-false}
use Rattle.std.proofs.lemmas.Result.{err_from_is_err_and}
use Rattle.requests.specs.Answers.{first}
use Rattle.requests.proofs.WordLaws.{some_reason}
use Rattle.texts.specs.MatrixText.{matrix_tests}
use Rattle.texts.proofs.FormLaws.{form_first, form_second, form_more, form_done, last_is, matrices_are}
use native.Mathlib.Omega.{arith}
use Rattle.texts.proofs.multiply.matrices.Goals as goal

pub returns-in_err-x-clause-reason : goal.returns-in_err-x-clause-reason
returns-in_err-x-clause-reason c =
    let p = err_from_is_err_and c.from_residual.result c.from_residual.ensures.1 in
    rw (p.1, p.2) (form_first c.args.text.now _ c.in_err-x.ensures.reason (some_reason _))

pub returns-in_err-y-clause-reason : goal.returns-in_err-y-clause-reason
returns-in_err-y-clause-reason c =
    let p = err_from_is_err_and c.from_residual-in_err-y.result c.from_residual-in_err-y.ensures.1 in
    let second = c.in_err-y.ensures.reason ∙ ap (λ (t : List ℕ). first (matrix_tests t)) c.in_ok-x.ensures.done.rest_is in
    rw (p.1, p.2) (form_second c.args.text.now _ c.in_ok-x.ensures.reason refl _ second (some_reason _))

pub returns-then-not-is_empty-clause-reason : goal.returns-then-not-is_empty-clause-reason
returns-then-not-is_empty-clause-reason c =
    let second = c.in_ok-y.ensures.reason ∙ ap (λ (t : List ℕ). first (matrix_tests t)) c.in_ok-x.ensures.done.rest_is in
    let last = last_is c.args.text.now c.in_ok-x.x.size c.in_ok-y.y.size c.in_ok-x.second.now c.in_ok-y.rest.now _ _ _ _ c.in_ok-x.ensures.done c.in_ok-y.ensures.done in
    form_more c.args.text.now _ c.in_ok-x.ensures.reason refl _ second refl (rw (← last) (let ne : length c.in_ok-y.rest.now ≢ 0 = eqb-false (length c.in_ok-y.rest.now) 0 (sym c.if-not-is_empty.ensures) in omega arith))

pub returns-clause-reason : goal.returns-clause-reason
returns-clause-reason c =
    let second = c.in_ok-y.ensures.reason ∙ ap (λ (t : List ℕ). first (matrix_tests t)) c.in_ok-x.ensures.done.rest_is in
    let last = last_is c.args.text.now c.in_ok-x.x.size c.in_ok-y.y.size c.in_ok-x.second.now c.in_ok-y.rest.now _ _ _ _ c.in_ok-x.ensures.done c.in_ok-y.ensures.done in
    form_done c.args.text.now _ c.in_ok-x.ensures.reason refl _ second refl (rw (← last) (eqb-true (length c.in_ok-y.rest.now) 0 (sym c.if-not-is_empty.ensures)))

pub returns-clause-done : goal.returns-clause-done
returns-clause-done c = matrices_are c.args.text.now c.in_ok-x.x.size c.in_ok-y.y.size c.in_ok-x.second.now c.in_ok-y.rest.now _ _ _ _ c.in_ok-x.ensures.done c.in_ok-y.ensures.done
