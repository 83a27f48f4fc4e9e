use mathlib.Core.Path.{refl, sym, ◌∙◌}
use Prim.Native.Nat.{◌+◌}
use Rattle.requests.specs.Answers.{first}
use Rattle.requests.proofs.AnswerLaws.{refused, finished}
use Rattle.frames.specs.Header.{read_header_tests, read_header_means}
use Rattle.hexadecimal.proofs.HexLaws.{framed, part_digits}
use Rattle.frames.proofs.HeaderLaws.{rows_read, columns_read, header_read, header_over}
use native.Mathlib.Omega.{arith}
use Rattle.frames.proofs.header.read_header.Goals as goal

pub returns-then-unframed : goal.returns-then-unframed
unfolding read_header_means read_header_tests first
returns-then-unframed c = refused _ _ _ 10 (λ z. omega arith) (rw (sym c.unframed.ensures ∙ c.if-unframed.true))

pub slice_bounds-value-end : goal.slice_bounds-value-end
slice_bounds-value-end c =
    let f = framed c.args.line.now 8 (sym c.unframed.ensures ∙ c.if-unframed.false) in
    omega (arith, f.long)

pub value-rows-requires : goal.value-rows-requires
value-rows-requires c =
    let f = framed c.args.line.now 8 (sym c.unframed.ensures ∙ c.if-unframed.false) in
    part_digits c.args.line.now 0 4 4 refl (omega (arith, f.long)) (omega arith) (λ k l. f.digits (0 + k) (omega arith))

pub slice_bounds-value-end-2 : goal.slice_bounds-value-end-2
slice_bounds-value-end-2 c =
    let f = framed c.args.line.now 8 (sym c.unframed.ensures ∙ c.if-unframed.false) in
    omega (arith, f.long)

pub value-columns-requires : goal.value-columns-requires
value-columns-requires c =
    let f = framed c.args.line.now 8 (sym c.unframed.ensures ∙ c.if-unframed.false) in
    part_digits c.args.line.now 4 4 4 refl (omega (arith, f.long)) (omega arith) (λ k l. f.digits (4 + k) (omega arith))

pub returns-then-over : goal.returns-then-over
unfolding read_header_means read_header_tests first
returns-then-over c =
    let long = (framed c.args.line.now 8 (sym c.unframed.ensures ∙ c.if-unframed.false)).long in
    let rows = rows_read c.args.line.now _ long c.value-rows.ensures in
    let columns = columns_read c.args.line.now _ long c.value-columns.ensures in
    refused _ _ _ 1 (λ z. omega arith) (rw (sym c.unframed.ensures ∙ c.if-unframed.false) (rw (header_over c.args.line.now _ _ rows columns (sym c.over.ensures ∙ c.if-over.true))))

pub returns : goal.returns
unfolding read_header_means read_header_tests first
returns c =
    let long = (framed c.args.line.now 8 (sym c.unframed.ensures ∙ c.if-unframed.false)).long in
    let rows = rows_read c.args.line.now _ long c.value-rows.ensures in
    let columns = columns_read c.args.line.now _ long c.value-columns.ensures in
    finished _ _ _ _ (rw (sym c.unframed.ensures ∙ c.if-unframed.false) (rw (header_over c.args.line.now _ _ rows columns (sym c.over.ensures ∙ c.if-over.false)))) (header_read c.args.line.now _ _ rows columns)
