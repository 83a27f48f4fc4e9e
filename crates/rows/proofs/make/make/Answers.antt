use Rattle.std.proofs.Common.{refl, ◌+◌, ◌-◌, arith}
use Rattle.rows.proofs.RowLaws.{more}
use Rattle.rows.proofs.make.make.Goals as goal

pub loop-j-preserved : goal.loop-j-preserved
loop-j-preserved g c = (
  omega arith,
  omega arith,
  λ f G.
      let at = c.loop-j.j in
      let two = more f c.args.x c.args.q at 2 (at + 2) _ _ _ refl (omega arith) (c.loop-j.invariant.2 f G) (c.make_two.ensures f G) in
      more f c.args.x c.args.q (at + 2) 2 (at + 4) _ _ _ (omega arith) (omega arith) two (c.make_two-in-loop-j.ensures f G),
)

pub returns : goal.returns
returns g c f G =
    more f c.args.x c.args.q c.loop-j.j (c.args.q - c.loop-j.j) c.args.q _ _ _ (omega arith) (omega arith) (c.loop-j.invariant.2 f G) (c.make_rest.ensures f G)
