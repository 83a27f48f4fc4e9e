use mathlib.Core.Path.{◌≡◌, sym, ◌∙◌}
use mathlib.Core.Bool.{true}
use borrow.Author.Tests.{eq-eqb, ne_eqb}
use Rattle.hexadecimal.specs.Line.{unframed}
use Rattle.hexadecimal.proofs.HexLaws.{undigit_front}
use native.Mathlib.Omega.{arith}
use Rattle.hexadecimal.proofs.line.unframed.Goals as goal
use Rattle.hexadecimal.proofs.line.unframed.Goals.{then-line-n, else-line-n}

pub returns-then-undigit : goal.returns-then-undigit
unfolding unframed
returns-then-undigit c =
    elim c.if-line-n.branch [
      | then-line-n w ↦ rw (c.if-undigit.true) (simp (ne_eqb _ _ w.if-line-n.true))
      | else-line-n w ↦ rw (c.if-undigit.true) (simp (eq-eqb _ _ w.if-line-n.false, sym (w.undigit.ensures ∙ undigit_front c.args.line.now c.args.n (omega (arith, w.if-line-n.false))) ∙ sym w.value-is ∙ c.if-undigit.true))
    ]

pub returns-else-undigit : goal.returns-else-undigit
unfolding unframed
returns-else-undigit c =
    elim c.if-line-n.branch [
      | then-line-n w ↦ (let v : c.if-line-n.value ≡ true = w.value-is ∙ simp (ne_eqb _ _ w.if-line-n.true) in cc)
      | else-line-n w ↦ simp (eq-eqb _ _ w.if-line-n.false, sym (w.undigit.ensures ∙ undigit_front c.args.line.now c.args.n (omega (arith, w.if-line-n.false))) ∙ sym w.value-is ∙ c.if-undigit.false)
    ]
