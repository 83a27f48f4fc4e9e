use Rattle.std.proofs.Common.{◌≡◌, ◌+◌, sym, arith, rules}
use Rattle.cells.specs.Digit.{combine}
use Rattle.rows.specs.Row.{of2}
use Rattle.rows.proofs.RowLaws.{made_count, made_first}
use Rattle.rows.proofs.combination.combination.Goals as goal

pub returns-then-q-eq1 : goal.returns-then-q-eq1
returns-then-q-eq1 c =
    let f = of2 (combine c.args.d) c.args.q c.args.a.now c.args.y c.args.b.now c.args.z in
    let first : c.args.x + 0 ≡ c.args.x = omega arith in
    made_count f c.args.x c.args.q 1 c.args.q _ _ (sym c.if-q-eq1.true) (made_first f c.args.x c.args.q 1 (rw first at c.make_one.ensures f (search rules)))
