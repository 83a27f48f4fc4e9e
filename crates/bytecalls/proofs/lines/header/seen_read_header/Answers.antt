use Rattle.requests.proofs.AnswerLaws.{seen}
use Rattle.frames.proofs.Outcomes.{read_header_exact}
use Rattle.bytecalls.proofs.LinesSeen.{header_right}
use Rattle.bytecalls.proofs.lines.header.seen_read_header.Goals as goal

pub returns : goal.returns
returns c =
    let line = c.args.line.now in
    seen (read_header_exact line _ _ c.read_header.ensures) (header_right line _ _ c.read_header.ensures)
