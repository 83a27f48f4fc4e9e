use mathlib.Core.Path.{refl}
use Rattle.blocks64.specs.Exchange.{apart, lower, upper}
use Rattle.blocks64.proofs.exchange.exchange_pair.Goals as goal

pub returns : goal.returns
unfolding apart lower upper
returns c = refl
