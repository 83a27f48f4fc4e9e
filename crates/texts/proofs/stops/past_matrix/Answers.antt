use mathlib.Core.Path.{refl, sym, ap, ◌∙◌}
use Prim.Native.Nat.{ℕ, ◌+◌}
use lib.ListN.{drop, drop_of_length-le}
use Rattle.requests.proofs.WordLaws.{some_reason}
use Rattle.texts.proofs.TextLaws.{rest_is, tail}
use Rattle.texts.proofs.StopsLaws.{seen_short, rest_short, seen_refused, seen_rows}
use native.Mathlib.Omega.{arith}
use Rattle.texts.proofs.stops.past_matrix.Goals as goal

pub returns-then-undigit : goal.returns-then-undigit
returns-then-undigit c = sym (seen_short c.args.text.now _ c.if-text-lt9.true c.undigit.ensures) ∙ c.if-undigit.true

pub returns-then-text-lt9 : goal.returns-then-text-lt9
returns-then-text-lt9 c = (
  sym (seen_short c.args.text.now _ c.if-text-lt9.true c.undigit.ensures) ∙ c.if-undigit.false,
  c.after.ensures ∙ drop_of_length-le c.args.text.now {i = 9} (omega arith) ∙ sym (rest_short c.args.text.now c.if-text-lt9.true),
)

pub returns-in_default : goal.returns-in_default
returns-in_default c = sym (seen_refused c.args.text.now _ _ _ c.in_default.ensures c.if-text-lt9.false (some_reason _))

pub returns-then-rows_stop : goal.returns-then-rows_stop
returns-then-rows_stop c =
    sym (rw (tail c.args.text.now 9 c.if-text-lt9.false) at c.rows_stop.ensures ∙ seen_rows c.args.text.now _ _ _ c.in-Ok.ensures c.if-text-lt9.false refl) ∙ c.if-rows_stop.true

pub returns : goal.returns
returns c = (
  sym (rw (tail c.args.text.now 9 c.if-text-lt9.false) at c.rows_stop.ensures ∙ seen_rows c.args.text.now _ _ _ c.in-Ok.ensures c.if-text-lt9.false refl) ∙ c.if-rows_stop.false,
  c.after-2.ensures ∙ ap (λ (l : ℕ). drop (9 + l) c.args.text.now) c.lines_long.ensures.0 ∙ sym (rest_is c.args.text.now _ _ _ c.in-Ok.ensures refl),
)
