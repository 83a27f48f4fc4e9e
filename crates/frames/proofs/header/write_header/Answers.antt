use mathlib.Core.Path.{sym, ◌∙◌}
use borrow.Author.Tests.{eq-eqb, ne_eqb}
use Rattle.requests.specs.Answers.{first}
use Rattle.requests.proofs.AnswerLaws.{refused, finished}
use Rattle.requests.proofs.SizeLaws.{over_rows, over_columns}
use Rattle.frames.specs.Header.{write_header_tests, write_header_means}
use Rattle.frames.proofs.HeaderLaws.{header_eight}
use native.Mathlib.Omega.{arith}
use Rattle.frames.proofs.header.write_header.Goals as goal

pub returns-then-over : goal.returns-then-over
unfolding write_header_means write_header_tests first
returns-then-over c = refused _ _ _ 1 (λ z. omega arith) (rw (sym c.over.ensures ∙ c.if-over.true))

pub returns-then-line-ne9 : goal.returns-then-line-ne9
unfolding write_header_means write_header_tests first
returns-then-line-ne9 c = refused _ _ _ 4 (λ z. omega arith) (rw (sym c.over.ensures ∙ c.if-over.false, ne_eqb _ _ c.if-line-ne9.true))

pub overflow_mul-s : goal.overflow_mul-s
overflow_mul-s c = omega (arith, over_rows _ (sym c.over.ensures ∙ c.if-over.false))

pub overflow_add-s : goal.overflow_add-s
overflow_add-s c = omega (arith, over_rows _ (sym c.over.ensures ∙ c.if-over.false), over_columns _ (sym c.over.ensures ∙ c.if-over.false))

pub returns : goal.returns
unfolding write_header_means write_header_tests first
returns c = finished _ _ _ _ (rw (sym c.over.ensures ∙ c.if-over.false, eq-eqb _ _ c.if-line-ne9.false)) (c.put.ensures ∙ header_eight c.args.s (over_rows _ (sym c.over.ensures ∙ c.if-over.false)) (over_columns _ (sym c.over.ensures ∙ c.if-over.false)))
