use mathlib.Core.Path.{refl, sym, ◌∙◌}
use Rattle.texts.specs.MatrixText.{above}
use Rattle.texts.proofs.limit.LimitedTryFromSize.try_from.Goals as goal

pub returns-then-exceeds : goal.returns-then-exceeds
unfolding above
returns-then-exceeds c = (sym c.exceeds.ensures ∙ c.if-exceeds.true, refl)

pub returns : goal.returns
unfolding above
returns c = (sym c.exceeds.ensures ∙ c.if-exceeds.false, refl)
