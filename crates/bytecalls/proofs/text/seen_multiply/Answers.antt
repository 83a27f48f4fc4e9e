use Rattle.bytecalls.proofs.TextSeen.{told}
use Rattle.bytecalls.proofs.text.seen_multiply.Goals as goal

pub returns : goal.returns
returns c =
    let given = c.args in
    told given.text.now given.out.now _ _ c.multiply.ensures
