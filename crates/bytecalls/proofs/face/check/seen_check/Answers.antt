use Rattle.requests.specs.declared.Size.{Size}
use Rattle.cface.proofs.Refusals.{check_exact}
use Rattle.bytecalls.proofs.face.check.seen_check.Goals as goal

pub returns : goal.returns
returns c =
    let given = c.args in
    let called = c.nyuzolamba_check in
    let s : Size = record { rows = given.rows; columns = given.columns } in
    check_exact s given.a.now called.result called.ensures
