use mathlib.Core.Bool.{Bool}
use mathlib.Core.List.{List, [], ◌∷◌}
use Prim.Native.Nat.{ℕ}
use lib.ListN.{get_or}
use mir.Val.{bool_byte}
use Rattle.std.specs.Prelude.{Ok, Err}
use Rattle.requests.proofs.AnswerLaws.{mapped, flag}
use Rattle.rows.specs.Tally.{tally_row}
use Rattle.matrix.proofs.Demand1.{tally_exact}
use Rattle.wordcalls.proofs.tally.call_tally.Goals as goal

four : List ℕ × Bool → List ℕ
four o = get_or o.0 0 0 ∷ get_or o.0 1 0 ∷ get_or o.0 2 0 ∷ bool_byte o.1 ∷ []

pub returns-in-Ok : goal.returns-in-Ok
unfolding four tally_row
returns-in-Ok c = rw (c.from.ensures, ← flag) (mapped four (tally_exact c.args.columns c.args.a.now (Ok c.in-Ok.tallied) c.in-Ok.ensures))

pub returns-in-Err : goal.returns-in-Err
unfolding four tally_row
returns-in-Err c = rw (c.from-in-Err.ensures, ← flag) (mapped four (tally_exact c.args.columns c.args.a.now (Err c.in-Err.why) c.in-Err.ensures))
