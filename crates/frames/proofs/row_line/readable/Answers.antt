use mathlib.Core.Path.{sym, ◌∙◌}
use Rattle.std.proofs.lemmas.Result.{err_from_is_err_and}
use borrow.Author.Tests.{eq-eqb, ne_eqb, lt-ltb, le-ltb}
use Rattle.requests.specs.Answers.{first}
use Rattle.frames.proofs.RowLineLaws.{wide_le}
use Rattle.frames.specs.RowLine.{read_row_tests}
use native.Mathlib.Omega.{arith}
use Rattle.frames.proofs.row_line.readable.Goals as goal

pub returns-in_err-w : goal.returns-in_err-w
unfolding read_row_tests first
returns-in_err-w c =
    let p = err_from_is_err_and c.from_residual.result c.from_residual.ensures.1 in
    rw (p.1, p.2, c.in_err-w.ensures.1, lt-ltb 1024 c.args.columns c.in_err-w.ensures.0)

pub returns-then-n-w : goal.returns-then-n-w
unfolding read_row_tests first
returns-then-n-w c = rw (le-ltb 1024 c.args.columns c.in_ok-w.ensures.1, ← c.in_ok-w.ensures.0, ne_eqb _ _ c.if-n-w.true)

pub overflow_mul-w : goal.overflow_mul-w
overflow_mul-w c = omega (arith, wide_le _ c.in_ok-w.ensures.1, c.in_ok-w.ensures.0)

pub unframed-requires : goal.unframed-requires
unframed-requires c = omega (arith, wide_le _ c.in_ok-w.ensures.1, c.in_ok-w.ensures.0)

pub returns-then-unframed : goal.returns-then-unframed
unfolding read_row_tests first
returns-then-unframed c = rw (le-ltb 1024 c.args.columns c.in_ok-w.ensures.1, ← c.in_ok-w.ensures.0, eq-eqb _ _ c.if-n-w.false, sym c.unframed.ensures ∙ c.if-unframed.true)

pub returns : goal.returns
unfolding read_row_tests first
returns c = rw (le-ltb 1024 c.args.columns c.in_ok-w.ensures.1, ← c.in_ok-w.ensures.0, eq-eqb _ _ c.if-n-w.false, sym c.unframed.ensures ∙ c.if-unframed.false)
