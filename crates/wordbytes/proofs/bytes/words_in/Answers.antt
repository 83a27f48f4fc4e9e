use native.Mathlib.Omega.{arith}
use Rattle.wordbytes.proofs.ByteLaws.{read_all}
use Rattle.wordbytes.proofs.bytes.words_in.Goals as goal

pub returns : goal.returns
returns c = read_all c.args.bytes.now c.loop-p.words (omega arith) (λ i l. c.loop-p.invariant i (omega arith))
