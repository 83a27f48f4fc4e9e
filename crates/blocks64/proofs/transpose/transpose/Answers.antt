use Rattle.blocks64.proofs.TransposeLaws.{transposed_by_stages}
use Rattle.blocks64.proofs.transpose.transpose.Goals as goal

pub returns : goal.returns
returns c = transposed_by_stages _ _ _ _ _ _ _ c.exchange.ensures c.exchange-2.ensures c.exchange-3.ensures c.exchange-4.ensures c.exchange-5.ensures c.exchange-6.ensures
