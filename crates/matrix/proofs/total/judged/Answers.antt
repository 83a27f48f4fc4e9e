use Rattle.std.proofs.Common.{rules}
use mathlib.Core.Path.{sym, ◌∙◌}
use mathlib.Core.List.{◌∷◌}
use Rattle.requests.specs.declared.Buffer.TheVariants.{First}
use Rattle.std.specs.Prelude.{length}
use Rattle.requests.specs.Sizes.{unfit}
use Rattle.requests.specs.Faults.{faults}
use Rattle.requests.proofs.AnswerLaws.{append_given}
use Rattle.requests.proofs.WordLaws.{some_reason}
use Rattle.matrix.specs.Quote.{quote_tests}
use Rattle.matrix.specs.Total.{total_tests}
use Rattle.matrix.proofs.total.judged.Goals as goal

-- the tests of size and width are the first two
pub returns-in_err-judged : goal.returns-in_err-judged
unfolding total_tests quote_tests
returns-in_err-judged c =
    let refused = c.in_err-judged.ensures in
    let tests = quote_tests c.args.x c.args.width in
    let more = (unfit c.args.x (length c.args.a.now), 4) ∷ faults First c.args.x c.args.a.now in
    let all = refused ∙ sym (append_given tests more (λ e. some_reason _ (refused ∙ e))) in
    search (rules, all)
