use Rattle.requests.specs.declared.Size.{Size}
use Rattle.matrix.proofs.Demand1.{check_exact}
use Rattle.wordcalls.proofs.check.call_check.Goals as goal

pub returns : goal.returns
returns c =
    let given = c.args in
    let s : Size = record { rows = given.rows; columns = given.columns } in
    rw c.word.ensures (check_exact s given.a.now c.check.result c.check.ensures)
