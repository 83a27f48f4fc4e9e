use Rattle.std.proofs.Common.{rules}
use Rattle.matrix.proofs.PackLaws.{Found, above_some, above_found}
use Rattle.matrix.proofs.pack.first_above.Goals as goal

pub unwrap-requires : goal.unwrap-requires
unwrap-requires c =
    let found : Found c.args.cells.now c.position.result = search rules in
    above_some c.args.cells.now c.requires c.position.result found

pub returns : goal.returns
returns c =
    let found : Found c.args.cells.now c.position.result = search rules in
    above_found c.args.cells.now c.requires c.unwrap.result (rw c.unwrap.ensures at found)
