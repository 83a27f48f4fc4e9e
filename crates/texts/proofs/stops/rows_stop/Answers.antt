use Rattle.std.proofs.Common.{◌≡◌, true, false, refl, rules, arith}
use Prim.Native.Nat.{ℕ, ◌*◌}
use mathlib.Core.Bool.{Bool}
use lib.ListN.{drop}
use Rattle.std.proofs.lemmas.Iterator.{cases_from_any, YieldsList-from_range}
use Rattle.requests.proofs.FaultLaws.{any_over}
use Rattle.frames.specs.RowLine.{line_long}
use Rattle.texts.specs.Stops.{row_stops, rows_stop}
use Rattle.texts.proofs.stops.rows_stop.Goals as goal

pub returns : goal.returns
unfolding rows_stop
returns c =
    let stops : ℕ → Bool = λ i. row_stops c.args.within.size.columns (drop (i * line_long c.args.within.size.columns) c.args.text.now) in
    any_over stops c.args.within.size.rows _
    (cases_from_any _ _ _ (λ i. stops i ≡ true) (λ i. stops i ≡ false) c.any.ensures.ran (YieldsList-from_range 0 _ c.args.within.size.rows refl (omega arith)) (λ x q k. search rules) (λ x q k. (search rules, search rules)))
