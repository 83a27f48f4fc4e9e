use Rattle.requests.specs.declared.Size.{Size}
use Rattle.requests.proofs.AnswerLaws.{seen}
use Rattle.matrix.proofs.Demand1.{transpose_exact}
use Rattle.matrix.proofs.Demand2.{transpose_right}
use Rattle.wordcalls.proofs.transpose.call_transpose.Goals as goal

pub returns : goal.returns
returns c =
    let given = c.args in
    let made = c.transpose in
    let s : Size = record { rows = given.rows; columns = given.columns } in
    rw c.word.ensures
    (seen (transpose_exact s given.a.now given.out.now made.result _ made.ensures) (transpose_right s given.a.now given.out.now made.result _ made.ensures))
