use Rattle.requests.specs.declared.Size.{Size}
use Rattle.requests.proofs.AnswerLaws.{seen}
use Rattle.matrix.proofs.Demand1.{scaling_exact}
use Rattle.matrix.proofs.Demand2.{scaling_right}
use Rattle.wordcalls.proofs.scaling.call_scaling.Goals as goal

pub returns : goal.returns
returns c =
    let given = c.args in
    let made = c.scaling in
    let s : Size = record { rows = given.rows; columns = given.columns } in
    rw c.word.ensures
    (seen (scaling_exact s given.d given.a.now given.out.now made.result _ made.ensures) (scaling_right s given.a.now given.out.now made.result _ given.d made.ensures))
