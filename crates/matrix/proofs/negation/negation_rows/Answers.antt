use Rattle.std.proofs.Common.{refl, ◌*◌, rules}
use Rattle.cells.specs.Digit.{neg3}
use Rattle.buffers.specs.Buffer.{planes}
use Rattle.rows.specs.Row.{of1}
use Rattle.rows.proofs.MatrixLaws.{placewise1}
use Rattle.matrix.specs.Negation.{negation_of}
use Rattle.matrix.proofs.ByRowLaws.{row_room, row_lent, rows_made}
use Rattle.matrix.proofs.negation.negation_rows.Goals as goal

pub by_row-requires-clause-accepts : goal.by_row-requires-clause-accepts
by_row-requires-clause-accepts c = λ i old h l. search (rules, row_room, row_lent)

pub returns : goal.returns
unfolding negation_of neg3
returns c =
    let made = c.by_row.ensures (λ k. of1 neg3 (planes c.args.a.now.columns) c.args.a.now.words.now (k * (2 * planes c.args.a.now.columns))) (λ i old new h l called. search rules) in
    placewise1 neg3 refl _ _ _ _ _ refl c.args.a.now.legal (rows_made _ _ _ _ _ made)
