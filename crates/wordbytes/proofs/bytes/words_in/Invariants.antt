use Rattle.wordbytes.proofs.ByteLaws.{Filled, word_at}
use Rattle.wordbytes.proofs.bytes.words_in.Given as goal

abbrev pub invariant-loop-p : goal.invariant-loop-p
invariant-loop-p l = Filled (word_at l.bytes) l.p l.words
