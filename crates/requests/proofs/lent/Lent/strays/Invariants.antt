use Rattle.std.proofs.Common.{◌≡◌, false}
use Rattle.buffers.specs.Fault.{stray}
use Rattle.requests.proofs.lent.Lent.strays.Given as goal

abbrev pub invariant-loop-i : goal.invariant-loop-i
invariant-loop-i l = l.bad ≡ 0 → stray l.from l.self.columns l.self.words.now ≡ false → stray l.i l.self.columns l.self.words.now ≡ false
