use Rattle.requests.specs.declared.Size.{Size}
use Rattle.requests.proofs.AnswerLaws.{seen}
use Rattle.matrix.proofs.Demand1.{product_exact}
use Rattle.matrix.proofs.Demand2.{product_right}
use Rattle.wordcalls.proofs.product.call_product.Goals as goal

pub returns : goal.returns
returns c =
    let given = c.args in
    let made = c.product in
    let x : Size = record { rows = given.a_rows; columns = given.a_columns } in
    let y : Size = record { rows = given.b_rows; columns = given.b_columns } in
    rw c.word.ensures
    (seen (product_exact x y given.width given.a.now given.b.now given.table.now given.product.now made.result _ made.ensures) (product_right x y given.width given.a.now given.b.now given.table.now given.product.now made.result _ _ made.ensures))
