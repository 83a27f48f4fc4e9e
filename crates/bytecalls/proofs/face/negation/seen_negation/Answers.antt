use Rattle.requests.specs.declared.Size.{Size}
use Rattle.requests.proofs.AnswerLaws.{seen}
use Rattle.cface.proofs.Refusals.{negation_exact}
use Rattle.cface.proofs.Demand2.{negation_right}
use Rattle.bytecalls.proofs.face.negation.seen_negation.Goals as goal

pub returns : goal.returns
returns c =
    let given = c.args in
    let called = c.nyuzolamba_negation in
    let s : Size = record { rows = given.rows; columns = given.columns } in
    seen (negation_exact s given.a.now given.out.now called.result _ called.ensures) (negation_right s given.a.now given.out.now called.result _ called.ensures)
