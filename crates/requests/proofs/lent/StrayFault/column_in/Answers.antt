use Rattle.std.proofs.Common.{◌∙◌, arith}
use Rattle.requests.proofs.FaultLaws.{strays_there, stray_there, stray_small}
use Rattle.requests.proofs.lent.StrayFault.column_in.Goals as goal

pub stray_column-requires : goal.stray_column-requires
stray_column-requires c =
    (c.planes.ensures, c.args.lent.now.columns_fit, rw c.planes.ensures c.start.ensures.within, rw c.planes.ensures (strays_there _ _ _ _ c.start.ensures.at ∙ c.requires.1))

pub returns : goal.returns
returns c =
    let is = rw c.planes.ensures at c.stray_column.ensures ∙ stray_there _ _ _ _ c.start.ensures.at in
    (is, omega (arith, is, stray_small _ _ _ c.requires.1, c.args.lent.now.columns_fit))
