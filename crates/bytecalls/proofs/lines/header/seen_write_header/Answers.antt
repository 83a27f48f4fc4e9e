use Rattle.requests.specs.declared.Size.{Size}
use Rattle.frames.proofs.Outcomes.{write_header_exact}
use Rattle.bytecalls.proofs.lines.header.seen_write_header.Goals as goal

pub returns : goal.returns
returns c =
    let given = c.args in
    let s : Size = record { rows = given.rows; columns = given.columns } in
    rw c.word.ensures (write_header_exact s given.line.now _ _ c.write_header.ensures)
