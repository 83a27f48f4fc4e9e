use Rattle.std.proofs.Common.{refl, ◌*◌, rules, arith}
use Rattle.cells.specs.Digit.{combine}
use Rattle.buffers.specs.Buffer.{planes, Legal}
use Rattle.rows.specs.Row.{of2}
use Rattle.rows.proofs.MatrixLaws.{placewise2}
use Rattle.matrix.specs.Combination.{combination_of}
use Rattle.matrix.proofs.ByRowLaws.{row_room, row_lent, rows_made}
use Rattle.matrix.proofs.combination.combination_rows.Goals as goal

pub by_row-requires-clause-accepts : goal.by_row-requires-clause-accepts
by_row-requires-clause-accepts c =
    let second : Legal c.args.a.now.rows c.args.a.now.columns c.args.b.now.words.now = rw (c.requires.0, c.requires.1) at c.args.b.now.legal in
    λ i old h l. search (rules, row_room, row_lent)

pub returns : goal.returns
unfolding combination_of combine
returns c =
    let made = c.by_row.ensures (λ k. of2 (combine c.args.d) (planes c.args.a.now.columns) c.args.a.now.words.now (k * (2 * planes c.args.a.now.columns)) c.args.b.now.words.now (k * (2 * planes c.args.a.now.columns))) (λ i old new h l called. search rules) in
    placewise2 (combine c.args.d) (omega arith) _ _ _ _ _ _ refl c.args.a.now.legal (rw (c.requires.0, c.requires.1) at c.args.b.now.legal) (rows_made _ _ _ _ _ made)
