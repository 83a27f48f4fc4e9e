use borrow.Author.Tests.{eq-eqb}
use Rattle.requests.proofs.AnswerLaws.{none_first, finished}
use mathlib.Core.Path.{refl}
use mathlib.Core.List.{[], ◌∷◌}
use Rattle.matrix.specs.Record.{job_in}
use Rattle.cface.specs.Record.{unfit_record}
use Rattle.cface.proofs.record.job_in.Goals as goal

pub returns : goal.returns
unfolding job_in unfit_record
returns c =
    finished _ _ _ _ (none_first (_ ∷ []) (rw (eq-eqb _ 56 c.if-bytes-ne-RECORD_BYTES.false) refl, tt)) (rw (c.from.ensures, c.words_in.ensures) refl)
