use Rattle.requests.specs.declared.Size.{Size}
use Rattle.requests.proofs.AnswerLaws.{seen}
use Rattle.matrix.proofs.Demand1.{combination_exact}
use Rattle.matrix.proofs.Demand2.{combination_right}
use Rattle.wordcalls.proofs.combination.call_combination.Goals as goal

pub returns : goal.returns
returns c =
    let given = c.args in
    let made = c.combination in
    let x : Size = record { rows = given.a_rows; columns = given.a_columns } in
    let y : Size = record { rows = given.b_rows; columns = given.b_columns } in
    rw c.word.ensures
    (seen (combination_exact x y given.d given.a.now given.b.now given.out.now made.result _ made.ensures) (combination_right x y given.d given.a.now given.b.now given.out.now made.result _ made.ensures))
