use Rattle.requests.specs.declared.Size.{Size}
use Rattle.requests.proofs.AnswerLaws.{seen}
use Rattle.matrix.proofs.Demand1.{unpack_exact}
use Rattle.matrix.proofs.Demand2.{unpack_right}
use Rattle.wordcalls.proofs.unpack.call_unpack.Goals as goal

pub returns : goal.returns
returns c =
    let given = c.args in
    let made = c.unpack in
    let s : Size = record { rows = given.rows; columns = given.columns } in
    rw c.word.ensures
    (seen (unpack_exact s given.a.now given.out.now made.result _ made.ensures) (unpack_right s given.a.now given.out.now made.result _ made.ensures))
