use Rattle.std.proofs.Common.{◌<◌}
use Rattle.known_sums.proofs.witness.totals.Given as goal

abbrev pub invariant-loop-width : goal.invariant-loop-width
invariant-loop-width g l = l.met < l.width-counter
