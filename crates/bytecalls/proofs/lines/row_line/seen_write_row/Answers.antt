use Rattle.frames.proofs.Outcomes.{write_row_exact}
use Rattle.bytecalls.proofs.lines.row_line.seen_write_row.Goals as goal

pub returns : goal.returns
returns c =
    let given = c.args in
    rw c.word.ensures (write_row_exact given.columns given.words.now given.line.now _ _ c.write_row.ensures)
