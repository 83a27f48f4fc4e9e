use mathlib.Core.Path.{◌≡◌, subst}
use Prim.Native.Nat.{ℕ, ◌+◌}
use Rattle.blocks64.specs.Exchange.{Stage}
use Rattle.blocks64.proofs.ExchangeLaws.{stage_none, stage_next, part_ends}
use native.Mathlib.Omega.{arith}
use Rattle.blocks64.proofs.exchange.exchange.Goals as goal

pub loop-k-init : goal.loop-k-init
loop-k-init c = stage_none _ _ _

pub overflow_mul-k : goal.overflow_mul-k
overflow_mul-k c = omega (arith, part_ends (c.args.h + c.args.h) c.loop-k.k c.args.n (omega arith))

pub exchange_pairs-requires : goal.exchange_pairs-requires
exchange_pairs-requires c = (omega arith, omega (arith, part_ends (c.args.h + c.args.h) c.loop-k.k c.args.n (omega arith), c.loop-k.invariant.long))

pub loop-k-preserved : goal.loop-k-preserved
loop-k-preserved c = stage_next _ _ _ _ _ _ c.loop-k.invariant c.exchange_pairs.ensures

pub returns : goal.returns
returns c =
    let e : c.loop-k.k ≡ c.args.n = omega arith in
    subst (λ (n : ℕ). Stage c.args.h c.args.mask n c.args.w.now c.loop-k.w) e c.loop-k.invariant
