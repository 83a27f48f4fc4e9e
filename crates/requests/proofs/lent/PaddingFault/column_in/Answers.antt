use Rattle.std.proofs.Common.{◌∙◌, arith}
use Rattle.buffers.proofs.SizeLaws.{planes_le}
use Rattle.requests.proofs.FaultLaws.{pads_there, padded_there, padded_small}
use Rattle.requests.proofs.lent.PaddingFault.column_in.Goals as goal

pub padded_column-requires : goal.padded_column-requires
padded_column-requires c =
    (c.planes.ensures, c.args.lent.now.columns_fit, rw c.planes.ensures c.start.ensures.within, rw c.planes.ensures (pads_there _ _ _ _ c.start.ensures.at ∙ c.requires.1))

pub returns : goal.returns
returns c =
    let is = rw c.planes.ensures at c.padded_column.ensures ∙ padded_there _ _ _ _ c.start.ensures.at in
    (is, omega (arith, is, padded_small _ _ _ c.requires.1, c.args.lent.now.columns_fit, planes_le _ c.args.lent.now.columns_fit))
