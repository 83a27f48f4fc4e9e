use mathlib.Core.Path.{sym, ap, ◌∙◌}
use Prim.Native.Nat.{ℕ}
use lib.ListN.{length}
use Rattle.std.proofs.Common.{rules}
use Rattle.requests.proofs.AnswerLaws.{finished}
use Rattle.requests.proofs.WordLaws.{refused_by}
use Rattle.frames.specs.RowLine.{line_of, write_row_means}
use Rattle.frames.proofs.RowLineLaws.{writable_row, wide_le}
use native.Mathlib.Omega.{arith}
use Rattle.frames.proofs.row_line.write_row.Goals as goal

pub returns-in_err-writable : goal.returns-in_err-writable
unfolding write_row_means
returns-in_err-writable c = search (rules, refused_by)

pub write_words-requires : goal.write_words-requires
write_words-requires c =
    let r = writable_row c.args.columns (length c.args.words.now) (length c.args.line.now) (sym c.in_ok-writable.ensures) in
    (omega (arith, r.size, wide_le _ r.small), omega (arith, r.size, r.room))

pub returns : goal.returns
unfolding write_row_means
returns c = finished _ _ _ _ (sym c.in_ok-writable.ensures) (c.write_words.ensures ∙ ap (λ (w : ℕ). line_of w c.args.words.now) (writable_row c.args.columns (length c.args.words.now) (length c.args.line.now) (sym c.in_ok-writable.ensures)).size)
