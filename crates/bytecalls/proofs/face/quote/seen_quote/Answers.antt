use Rattle.requests.specs.declared.Size.{Size}
use Rattle.requests.proofs.AnswerLaws.{seen}
use Rattle.cface.proofs.Refusals.{quote_exact}
use Rattle.cface.proofs.Demand2.{quote_right}
use Rattle.bytecalls.proofs.face.quote.seen_quote.Goals as goal

pub returns : goal.returns
returns c =
    let given = c.args in
    let called = c.nyuzolamba_quote in
    let x : Size = record { rows = given.a_rows; columns = given.a_columns } in
    seen (quote_exact x given.width given.out.now called.result _ called.ensures) (quote_right x given.width given.out.now called.result _ called.ensures)
