use Rattle.std.proofs.Common.{◌∙◌, sym}
use Rattle.cells.proofs.FaultLaws.{some_bit, first_bit, stray_clear, stray_set}
use Rattle.cells.proofs.fault.first_stray.Goals as goal

pub lowest-requires : goal.lowest-requires
lowest-requires c = some_bit _ 64 _ (stray_clear c.args.x.unit c.args.x.sign) c.requires

pub returns : goal.returns
returns c = c.from.ensures ∙ sym (first_bit _ 64 _ (stray_clear c.args.x.unit c.args.x.sign) c.requires (stray_set c.args.x.unit c.args.x.sign) 64 _ _ c.lowest.ensures)
