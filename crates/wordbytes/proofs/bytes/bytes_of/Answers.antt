use native.Mathlib.Omega.{arith}
use Rattle.wordbytes.proofs.ByteLaws.{put_word, written_all}
use Rattle.wordbytes.proofs.bytes.bytes_of.Goals as goal

pub loop-p-preserved : goal.loop-p-preserved
loop-p-preserved c = put_word c.args.words.now c.loop-p.bytes c.loop-p.p _ c.copy_from_slice.new.self (omega arith) (rw c.copy_from_slice.ensures.after c.to_le_bytes.ensures) c.loop-p.invariant

pub returns : goal.returns
returns c = written_all c.args.words.now c.loop-p.bytes (omega arith) (λ i l. c.loop-p.invariant i (omega arith))
