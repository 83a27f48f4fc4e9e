use Rattle.requests.specs.declared.Size.{Size}
use Rattle.requests.proofs.AnswerLaws.{seen}
use Rattle.cface.proofs.Refusals.{combination_exact}
use Rattle.cface.proofs.Demand2.{combination_right}
use Rattle.bytecalls.proofs.face.combination.seen_combination.Goals as goal

pub returns : goal.returns
returns c =
    let given = c.args in
    let called = c.nyuzolamba_combination in
    let x : Size = record { rows = given.a_rows; columns = given.a_columns } in
    let y : Size = record { rows = given.b_rows; columns = given.b_columns } in
    seen (combination_exact x y given.digit given.a.now given.b.now given.out.now called.result _ called.ensures) (combination_right x y given.a.now given.b.now given.out.now called.result _ given.digit called.ensures)
