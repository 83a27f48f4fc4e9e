use Rattle.std.proofs.Common.{arith}
use Rattle.cells.specs.Digit.{mul3}
use Rattle.rows.proofs.RowLaws.{made_next, made_of1}
use Rattle.rows.proofs.scaling.scaling.Goals as goal

pub loop-p-preserved : goal.loop-p-preserved
loop-p-preserved c =
    let digits = made_of1 (λ a. mul3 a c.args.d) c.args.q c.args.a.now c.args.y c.loop-p.p c.pair.ensures c.scale.ensures in
    rw c.store.ensures (made_next _ c.args.x c.args.q c.loop-p.p _ _ _ _ c.loop-p-test.true (omega (arith, c.loop-p.invariant.long)) (record { holds = digits; unit_fits = omega (arith, c.scale.type_inv); sign_fits = omega (arith, c.scale.type_inv) }) c.loop-p.invariant)
