use Rattle.std.proofs.lemmas.Result.{err_from_is_err_and}
use borrow.Author.Tests.{eq-eqb, ne_eqb, lt-ltb, le-ltb}
use Rattle.requests.specs.Answers.{first}
use Rattle.frames.proofs.RowLineLaws.{wide_le}
use Rattle.frames.specs.RowLine.{line_long, write_row_tests}
use native.Mathlib.Omega.{arith}
use Rattle.frames.proofs.row_line.writable.Goals as goal
use Rattle.frames.proofs.row_line.writable.Goals.{then-n-w-via-then-n-w, then-n-w-via-else-n-w+then-m-w}

pub returns-in_err-w : goal.returns-in_err-w
unfolding write_row_tests first
returns-in_err-w c =
    let p = err_from_is_err_and c.from_residual.result c.from_residual.ensures.1 in
    rw (p.1, p.2, c.in_err-w.ensures.1, lt-ltb 1024 c.args.columns c.in_err-w.ensures.0)

pub returns-then-n-w : goal.returns-then-n-w
unfolding write_row_tests line_long first
returns-then-n-w c =
    elim c.then-n-w.branch [
      | then-n-w-via-then-n-w w ↦ rw (le-ltb 1024 c.args.columns c.in_ok-w.ensures.1, ← c.in_ok-w.ensures.0, ne_eqb _ _ w.if-n-w.true)
      | then-n-w-via-else-n-w+then-m-w w ↦ rw (le-ltb 1024 c.args.columns c.in_ok-w.ensures.1, ← c.in_ok-w.ensures.0, eq-eqb _ _ w.if-n-w.false, ne_eqb _ _ w.if-m-w.true)
    ]

pub overflow_mul-w : goal.overflow_mul-w
overflow_mul-w c = omega (arith, wide_le _ c.in_ok-w.ensures.1, c.in_ok-w.ensures.0)

pub overflow_add-w : goal.overflow_add-w
overflow_add-w c = omega (arith, wide_le _ c.in_ok-w.ensures.1, c.in_ok-w.ensures.0)

pub returns : goal.returns
unfolding write_row_tests line_long first
returns c = rw (le-ltb 1024 c.args.columns c.in_ok-w.ensures.1, ← c.in_ok-w.ensures.0, eq-eqb _ _ c.if-n-w.false, eq-eqb _ _ c.if-m-w.false)
