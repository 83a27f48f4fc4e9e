use mathlib.Core.Path.{◌≡◌, subst}
use Prim.Native.Nat.{ℕ}
use Rattle.blocks64.specs.Exchange.{Pairs}
use Rattle.blocks64.proofs.ExchangeLaws.{pairs_none, pairs_next}
use native.Mathlib.Omega.{arith}
use Rattle.blocks64.proofs.exchange.exchange_pairs.Goals as goal

pub loop-j-init : goal.loop-j-init
loop-j-init c = pairs_none _ _ _ _

pub exchange_pair-requires : goal.exchange_pair-requires
exchange_pair-requires c = (omega arith, omega (arith, c.loop-j.invariant.long))

pub loop-j-preserved : goal.loop-j-preserved
loop-j-preserved c = pairs_next _ _ _ _ _ _ _ (omega arith) (omega arith) c.loop-j.invariant c.exchange_pair.ensures

pub returns : goal.returns
returns c =
    let e : c.loop-j.j ≡ c.args.h = omega arith in
    subst (λ (n : ℕ). Pairs c.args.h c.args.mask c.args.x n c.args.w.now c.loop-j.w) e c.loop-j.invariant
