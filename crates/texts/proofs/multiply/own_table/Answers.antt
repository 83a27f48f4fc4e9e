use mathlib.Core.Path.{ap}
use Prim.Native.Nat.{ℕ}
use Rattle.texts.proofs.ProductLaws.{width_ok, own_width, own_table}
use native.Mathlib.Omega.{arith}
use Rattle.texts.proofs.multiply.own_table.Goals as goal

pub unwrap-width-requires : goal.unwrap-width-requires
unwrap-width-requires c = width_ok c.args.x.size c.width.result c.args.x.few c.args.x.narrow c.width.ensures

pub overflow_shl-result : goal.overflow_shl-result
overflow_shl-result c =
    let says = rw c.unwrap-width.ensures at c.width.ensures in
    omega (arith, (own_width c.args.x.size c.unwrap-width.result c.args.x.few c.args.x.narrow (ap (λ (o : ℕ × ℕ). o.1) says)).1)

pub overflow_mul-result : goal.overflow_mul-result
overflow_mul-result c =
    let says = rw c.unwrap-width.ensures at c.width.ensures in
    omega (arith, (own_table c.args.x.size c.unwrap-width.result c.args.y.size.columns c.wide.result c.args.x.few c.args.x.narrow c.args.y.narrow (ap (λ (o : ℕ × ℕ). o.1) says) c.wide.ensures.0).1)

pub returns : goal.returns
returns c =
    let says = rw c.unwrap-width.ensures at c.width.ensures in
    own_table c.args.x.size c.unwrap-width.result c.args.y.size.columns c.wide.result c.args.x.few c.args.x.narrow c.args.y.narrow (ap (λ (o : ℕ × ℕ). o.1) says) c.wide.ensures.0
