use Rattle.requests.specs.declared.Size.{Size}
use Rattle.requests.proofs.AnswerLaws.{seen}
use Rattle.cface.proofs.Refusals.{product_exact}
use Rattle.cface.proofs.Demand2.{product_right}
use Rattle.bytecalls.proofs.face.product.seen_product.Goals as goal

pub returns : goal.returns
returns c =
    let given = c.args in
    let called = c.nyuzolamba_product in
    let x : Size = record { rows = given.a_rows; columns = given.a_columns } in
    let y : Size = record { rows = given.b_rows; columns = given.b_columns } in
    seen (product_exact x y given.a.now given.b.now given.product.now called.result _ called.ensures) (product_right x y given.a.now given.b.now given.product.now called.result _ called.ensures)
