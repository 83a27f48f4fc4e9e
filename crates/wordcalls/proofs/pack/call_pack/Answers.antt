use Rattle.requests.specs.declared.Size.{Size}
use Rattle.requests.proofs.AnswerLaws.{seen}
use Rattle.matrix.proofs.Demand1.{pack_exact}
use Rattle.matrix.proofs.Demand2.{pack_right}
use Rattle.wordcalls.proofs.pack.call_pack.Goals as goal

pub returns : goal.returns
returns c =
    let given = c.args in
    let made = c.pack in
    let s : Size = record { rows = given.rows; columns = given.columns } in
    rw c.word.ensures
    (seen (pack_exact s given.cells.now given.out.now made.result _ made.ensures) (pack_right s given.cells.now given.out.now made.result _ made.ensures))
