use Rattle.requests.proofs.AnswerLaws.{seen}
use Rattle.cface.proofs.Refusals.{turn_exact}
use Rattle.cface.proofs.Demand2.{turn_right}
use Rattle.bytecalls.proofs.face.turn.seen_turn.Goals as goal

pub returns : goal.returns
returns c =
    let given = c.args in
    let called = c.nyuzolamba_turn in
    seen (turn_exact given.job.now given.a.now given.b.now given.table.now given.product.now given.budget called.result _ called.ensures) (turn_right given.job.now given.a.now given.b.now given.table.now given.product.now given.budget called.result _ called.ensures)
