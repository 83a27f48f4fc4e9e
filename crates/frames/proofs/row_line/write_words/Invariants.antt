use Rattle.hexadecimal.proofs.LineLaws.{Filled}
use Rattle.frames.proofs.RowLineLaws.{byte_at}
use Rattle.frames.proofs.row_line.write_words.Given as goal

abbrev pub invariant-loop-k : goal.invariant-loop-k
invariant-loop-k l = Filled (byte_at l.words) l.k l.line
