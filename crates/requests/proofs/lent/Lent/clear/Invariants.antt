use Rattle.std.proofs.Common.{◌≡◌, false, ◌-◌, ◌≤◌}
use Rattle.buffers.specs.Fault.{stray}
use Rattle.requests.proofs.lent.Lent.clear.Given as goal

abbrev pub invariant-loop-from : goal.invariant-loop-from
invariant-loop-from l = (l.from ≤ l.self.rows) × (stray l.from l.self.columns l.self.words.now ≡ false)

abbrev pub decreases-loop-from : goal.decreases-loop-from
decreases-loop-from l = l.self.rows - l.from
