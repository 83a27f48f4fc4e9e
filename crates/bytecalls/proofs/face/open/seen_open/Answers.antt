use Rattle.requests.specs.declared.Size.{Size}
use Rattle.requests.proofs.AnswerLaws.{seen}
use Rattle.cface.proofs.Refusals.{open_exact}
use Rattle.cface.proofs.Demand2.{open_right}
use Rattle.bytecalls.proofs.face.open.seen_open.Goals as goal

pub returns : goal.returns
returns c =
    let given = c.args in
    let called = c.nyuzolamba_open in
    let x : Size = record { rows = given.a_rows; columns = given.a_columns } in
    let y : Size = record { rows = given.b_rows; columns = given.b_columns } in
    seen (open_exact x y given.width given.job.now given.a.now given.b.now given.table.now given.product.now called.result _ called.ensures) (open_right x y given.width given.job.now given.a.now given.b.now given.table.now given.product.now called.result _ called.ensures)
