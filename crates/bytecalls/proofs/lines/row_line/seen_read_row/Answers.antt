use Rattle.requests.proofs.AnswerLaws.{seen}
use Rattle.frames.proofs.Outcomes.{read_row_exact}
use Rattle.bytecalls.proofs.LinesSeen.{row_right}
use Rattle.bytecalls.proofs.lines.row_line.seen_read_row.Goals as goal

pub returns : goal.returns
returns c =
    let given = c.args in
    let made = c.read_row in
    rw c.word.ensures (seen (read_row_exact given.columns given.line.now given.words.now _ _ made.ensures) (row_right given.columns given.line.now given.words.now _ _ made.ensures))
