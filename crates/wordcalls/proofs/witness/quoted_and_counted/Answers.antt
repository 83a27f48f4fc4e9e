use mathlib.Core.Path.{refl, ap, ap₂, ◌∙◌}
use mathlib.Core.List.{List}
use Prim.Native.Nat.{ℕ}
use Rattle.std.specs.Prelude.{Ok, Err}
use Rattle.requests.proofs.WordLaws.{some_reason}
use Rattle.matrix.specs.Total.{total_means}
use Rattle.matrix.proofs.Demand1.{quote_exact}
use Rattle.matrix.proofs.Witness.{witness_answers}
use Rattle.wordcalls.proofs.witness.quoted_and_counted.Goals as goal

pub returns-in_err-quoted : goal.returns-in_err-quoted
returns-in_err-quoted c =
    let E = quote_exact c.args.s c.args.width (Err _) c.in_err-quoted.ensures in
    λ h e. absurd (some_reason _ (E.numbered.done.1 h))

-- the total of the witness says what a quote says
pub returns-in_err-counted : goal.returns-in_err-counted
returns-in_err-counted c =
    let given = c.args in
    λ h e.
    let F = quote_exact given.s given.width (Err _) (c.in_err-counted.ensures ∙ ap (λ (a : List ℕ). total_means given.s given.width a) e ∙ witness_answers given.s given.width) in
    absurd (some_reason _ (F.numbered.done.1 h))

pub returns : goal.returns
returns c =
    let given = c.args in
    λ h e.
    let E = quote_exact given.s given.width (Ok _) c.in_ok-quoted.ensures in
    let F = quote_exact given.s given.width (Ok _) (c.in_ok-counted.ensures ∙ ap (λ (a : List ℕ). total_means given.s given.width a) e ∙ witness_answers given.s given.width) in
    ap₂ (λ (q n : ℕ). Ok (q, n)) (E.right refl) (F.right refl)
