use mathlib.Core.Path.{refl, sym, ap, ◌∙◌}
use Prim.Native.Nat.{ℕ}
use lib.ListN.{take}
use Rattle.std.proofs.lemmas.Result.{err_from_is_err_and}
use Rattle.requests.specs.Answers.{number_in}
use Rattle.requests.proofs.WordLaws.{some_reason}
use Rattle.texts.proofs.MultiplyLaws.{form_refused, form_number, multiply_tests_lem, product_printed}
use Rattle.texts.proofs.multiply.product_frames.Goals as goal

pub returns-in_err-x : goal.returns-in_err-x
returns-in_err-x c =
    let p = err_from_is_err_and c.from_residual.result c.from_residual.ensures.1 in
    rw (p.1, p.2) (ap number_in c.in_err-x.ensures.reason ∙ form_number c.args.text.now ∙ sym c.in_err-x.ensures.reason ∙ form_refused c.args.text.now _ (some_reason _) c.in_err-x.ensures.reason, refl)

pub returns-in_err-total : goal.returns-in_err-total
returns-in_err-total c =
    let p = err_from_is_err_and c.from_residual-in_err-total.result c.from_residual-in_err-total.ensures.1 in
    let F = c.in_ok-x.ensures.done in
    let a = ap (λ (n : ℕ). take n c.matrices.new.a) c.long-2.ensures.0 ∙ F.a_is in
    let b = ap (λ (n : ℕ). take n c.matrices.new.b) c.long-3.ensures.0 ∙ F.b_is in
    rw (p.1, p.2) (c.in_err-total.ensures.reason ∙ multiply_tests_lem c.args.text.now c.in_ok-x.x.size c.in_ok-x.y.size _ _ c.in_ok-x.ensures.reason F.x_is F.y_is a b, refl)

pub returns : goal.returns
returns c =
    let F = c.in_ok-x.ensures.done in
    let a = ap (λ (n : ℕ). take n c.matrices.new.a) c.long-2.ensures.0 ∙ F.a_is in
    let b = ap (λ (n : ℕ). take n c.matrices.new.b) c.long-3.ensures.0 ∙ F.b_is in
    let done = c.in_ok-total.ensures.done in
    rw c.product-p.ensures at c.put_frames.ensures ∙ product_printed c.args.text.now c.in_ok-x.x.size c.in_ok-x.y.size _ _ c.in_ok-x.ensures.reason F.x_is F.y_is a b c.args.out.now _ c.in_ok-total.total c.in_ok-total.ensures.reason done.0 done.1
