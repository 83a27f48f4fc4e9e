use Rattle.requests.specs.declared.Size.{Size}
use Rattle.requests.proofs.AnswerLaws.{seen}
use Rattle.matrix.proofs.Demand1.{negation_exact}
use Rattle.matrix.proofs.Demand2.{negation_right}
use Rattle.wordcalls.proofs.negation.call_negation.Goals as goal

pub returns : goal.returns
returns c =
    let given = c.args in
    let made = c.negation in
    let s : Size = record { rows = given.rows; columns = given.columns } in
    rw c.word.ensures
    (seen (negation_exact s given.a.now given.out.now made.result _ made.ensures) (negation_right s given.a.now given.out.now made.result _ made.ensures))
