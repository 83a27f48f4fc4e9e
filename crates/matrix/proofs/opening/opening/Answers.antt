use Rattle.std.proofs.Common.{rules}
use mathlib.Core.Path.{sym, ap₂, ◌∙◌}
use mathlib.Core.List.{List}
use Prim.Native.Nat.{ℕ, ◌^◌}
use lib.ListN.{length}
use Rattle.buffers.proofs.BufferLaws.{zeros_encode}
use Rattle.requests.specs.declared.Size.{Size}
use Rattle.requests.proofs.AnswerLaws.{finished}
use Rattle.requests.proofs.SizeLaws.{not_over}
use Rattle.matrix.specs.declared.job.Job.{Job}
use Rattle.matrix.specs.Job.{meant}
use Rattle.matrix.specs.Opening.{opening_means}
use Rattle.requests.proofs.WordLaws.{refused_by}
use Rattle.matrix.proofs.JobLaws.{opening_ready}
use Rattle.matrix.proofs.opening.opening.Goals as goal

abbrev made : Size → Size → ℕ → Job
made x y w = record { m = x.rows; l = x.columns; n = y.columns; width = w; done = 0 }

pub returns-in_err-judged : goal.returns-in_err-judged
unfolding opening_means
returns-in_err-judged c = search (rules, refused_by)

pub meant-requires : goal.meant-requires
meant-requires c =
    let r = opening_ready c.args.x c.args.y c.args.width c.args.a.now c.args.b.now (length c.args.table.now) (length c.args.product.now) (sym c.in_ok-judged.ensures) in
    not_over _ r.m r.l

pub returns : goal.returns
unfolding opening_means
returns c =
    let r = opening_ready c.args.x c.args.y c.args.width c.args.a.now c.args.b.now (length c.args.table.now) (length c.args.product.now) (sym c.in_ok-judged.ensures) in
    finished _ _ _ _ (sym c.in_ok-judged.ensures)
    (ap₂ (λ (w : ℕ) (tp : List ℕ × List ℕ). (made c.args.x c.args.y w, tp)) c.meant.ensures
    (ap₂ (λ (t p : List ℕ). (t, p)) (zeros_encode (2 ^ meant c.args.x c.args.width) c.args.y.columns _ (c.zero.ensures.0 ∙ r.table) c.zero.ensures.1) (zeros_encode c.args.x.rows c.args.y.columns _ (c.zero-2.ensures.0 ∙ r.product) c.zero-2.ensures.1)))
