use mathlib.Core.Path.{sym}
use Prim.Native.Nat.{◌+◌, ◌*◌}
use mathlib.Core.List.{[]}
use lib.ListN.{take, length-take}
use Rattle.buffers.specs.Buffer.{wide}
use Rattle.frames.specs.RowLine.{line_long}
use Rattle.requests.proofs.AnswerLaws.{here}
use Rattle.texts.proofs.TextLaws.{short_frame, row_read, done_so}
use native.Mathlib.Omega.{arith}
use Rattle.texts.proofs.read.row_in.Goals as goal

pub returns-then-text-line-clause-reason : goal.returns-then-text-line-clause-reason
unfolding line_long
returns-then-text-line-clause-reason c = sym (here _ 10 [] (short_frame (take (wide c.args.within.size.columns * 16 + 1) c.args.text.now) (wide c.args.within.size.columns * 16) (λ e. omega (arith, c.line_long-line.ensures.0, length-take (wide c.args.within.size.columns * 16 + 1) c.args.text.now))))

pub returns-clause-reason : goal.returns-clause-reason
returns-clause-reason c = (row_read c.args.within.size.columns (take (line_long c.args.within.size.columns) c.args.text.now) c.args.row.now _ _ (omega (arith, c.args.within.narrow)) c.requires (rw c.line_long-line.ensures.0 at c.read_row.ensures)).0

pub returns-clause-done : goal.returns-clause-done
returns-clause-done c =
    let r = row_read c.args.within.size.columns (take (line_long c.args.within.size.columns) c.args.text.now) c.args.row.now _ _ (omega (arith, c.args.within.narrow)) c.requires (rw c.line_long-line.ensures.0 at c.read_row.ensures) in
    done_so c.read_row.result _ (λ z. (omega (arith, c.line_long-line.ensures.0), r.1 z))
