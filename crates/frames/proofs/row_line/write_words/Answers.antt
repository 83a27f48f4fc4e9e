use lib.ListN.{length}
use Rattle.hexadecimal.specs.Digit.{nibble}
use Rattle.hexadecimal.proofs.LineLaws.{filled_next}
use Rattle.frames.proofs.RowLineLaws.{byte_at, row_written}
use native.Mathlib.Omega.{arith}
use Rattle.frames.proofs.row_line.write_words.Goals as goal

pub loop-k-preserved : goal.loop-k-preserved
unfolding nibble
loop-k-preserved c = filled_next (byte_at c.args.words.now) c.loop-k.k c.loop-k.line c.byte_of.result (omega arith) c.byte_of.ensures c.loop-k.invariant

pub returns : goal.returns
returns c = row_written (length c.args.words.now) c.args.words.now c.loop-k.line (omega arith) (λ i l. c.loop-k.invariant i (omega arith))
