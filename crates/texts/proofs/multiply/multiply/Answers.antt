use mathlib.Core.Path.{◌∙◌}
use Rattle.requests.proofs.WordLaws.{reason_number}
use Rattle.texts.proofs.MultiplyLaws.{refusal_printed}
use Rattle.texts.proofs.multiply.multiply.Goals as goal

pub returns-in-Err : goal.returns-in-Err
returns-in-Err c = rw c.in-Err.ensures.1 at c.refuse.ensures ∙ refusal_printed c.args.text.now c.args.out.now c.number.result (λ z. reason_number _ (rw c.number.ensures at z)) (c.number.ensures ∙ c.in-Err.ensures.0)
