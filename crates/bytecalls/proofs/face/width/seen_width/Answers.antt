use Rattle.requests.specs.declared.Size.{Size}
use Rattle.requests.proofs.AnswerLaws.{seen}
use Rattle.cface.proofs.Refusals.{width_exact}
use Rattle.cface.proofs.Demand2.{width_right}
use Rattle.bytecalls.proofs.face.width.seen_width.Goals as goal

pub returns : goal.returns
returns c =
    let given = c.args in
    let called = c.nyuzolamba_width in
    let x : Size = record { rows = given.a_rows; columns = given.a_columns } in
    seen (width_exact x given.width given.out.now called.result _ called.ensures) (width_right x given.width given.out.now called.result _ called.ensures)
