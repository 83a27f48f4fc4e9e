use Rattle.std.proofs.Common.{ℕ, ◌+◌, ◌∙◌, sym, ap}
use Rattle.cells.proofs.FaultLaws.{some_bit, first_bit, padded_clear, padded_set}
use Rattle.cells.proofs.fault.first_padded.Goals as goal

pub lowest-requires : goal.lowest-requires
lowest-requires c = some_bit _ _ _ (padded_clear c.args.x.unit c.args.x.sign c.args.n) c.requires.1

pub returns : goal.returns
returns c = ap (λ (t : ℕ). c.args.n + t) (c.from.ensures ∙ sym (first_bit _ _ _ (padded_clear c.args.x.unit c.args.x.sign c.args.n) c.requires.1 (padded_set c.args.x.unit c.args.x.sign c.args.n) 64 _ _ c.lowest.ensures))
