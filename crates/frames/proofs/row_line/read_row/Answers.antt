use mathlib.Core.Path.{sym, ap, ◌∙◌}
use Prim.Native.Nat.{ℕ}
use lib.ListN.{length}
use Rattle.std.proofs.Common.{rules}
use Rattle.requests.proofs.AnswerLaws.{finished}
use Rattle.requests.proofs.WordLaws.{refused_by}
use Rattle.frames.specs.RowLine.{words_of, read_row_means}
use Rattle.frames.proofs.RowLineLaws.{readable_row}
use native.Mathlib.Omega.{arith}
use Rattle.frames.proofs.row_line.read_row.Goals as goal

pub returns-in_err-readable : goal.returns-in_err-readable
unfolding read_row_means
returns-in_err-readable c = search (rules, refused_by)

pub read_words-requires : goal.read_words-requires
read_words-requires c =
    let r = readable_row c.args.columns c.args.line.now (length c.args.words.now) (sym c.in_ok-readable.ensures) in
    (omega (arith, r.size, r.frame.long), λ k l. r.frame.digits k (omega (arith, r.size)))

pub returns : goal.returns
unfolding read_row_means
returns c = finished _ _ _ _ (sym c.in_ok-readable.ensures) (c.read_words.ensures ∙ ap (λ (w : ℕ). words_of w c.args.line.now) (readable_row c.args.columns c.args.line.now (length c.args.words.now) (sym c.in_ok-readable.ensures)).size)
