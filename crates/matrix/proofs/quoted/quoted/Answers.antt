use Rattle.matrix.proofs.WidthLaws.{quoted_is}
use Rattle.matrix.proofs.quoted.quoted.Goals as goal

pub returns : goal.returns
returns c =
    quoted_is c.args.m c.args.l c.args.k c.block_quote.result c.block_quote-2.result c.requires.2 c.block_quote.ensures c.block_quote-2.ensures
