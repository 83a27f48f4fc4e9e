use mathlib.Core.Path.{◌≡◌, refl, sym, ap, ◌∙◌}
use mathlib.Core.Bool.{Bool}
use mathlib.Core.List.{[], ◌∷◌}
use Prim.Native.Nat.{◌*◌}
use lib.ListN.{length, length-drop}
use Rattle.std.proofs.lemmas.Result.{err_from_is_err_and}
use Rattle.requests.specs.Answers.{first}
use Rattle.buffers.specs.Buffer.{words, joined}
use Rattle.texts.specs.MatrixText.{words_read}
use Rattle.texts.specs.Multiply.{laid}
use Rattle.texts.proofs.LaidLaws.{laid_all}
use Rattle.texts.proofs.TextLaws.{no_frame, frame, no_fault, tail, line_is, misread_none, misread_more, misread_stop, words_long, words_more, row_room}
use native.Mathlib.Omega.{arith}
use Rattle.texts.proofs.read.rows_in.Goals as goal

pub loop-i-init : goal.loop-i-init
unfolding words_read laid joined
loop-i-init c = record { reached = omega arith; read = misread_none c.args.within.size.columns c.args.text.now; words_are = refl }

pub slice_bounds-row_in-end-in-loop-i : goal.slice_bounds-row_in-end-in-loop-i
slice_bounds-row_in-end-in-loop-i c =
    omega (arith, row_room c.loop-i.i c.args.within.size.rows c.args.within.size.columns c.wide-w.result (length c.args.held.now) c.wide-w.ensures.0 c.requires (omega arith))

pub returns-in_err-row_in-clause-reason : goal.returns-in_err-row_in-clause-reason
returns-in_err-row_in-clause-reason c =
    let p = err_from_is_err_and c.from_residual.result c.from_residual.ensures.1 in
    let says = rw (line_is c.args.within.size.columns c.args.text.now c.loop-i.i c.line_long-line.result c.line_long-line.ensures.0 c.loop-i.invariant.reached) at c.in_err-row_in.ensures.reason in
    let bad = no_frame _ _ says in
    rw (p.1, p.2) (says ∙ ap (λ (t : Bool). first ((t, 10) ∷ [])) (bad ∙ sym (misread_stop c.args.within.size.columns c.args.text.now c.loop-i.i c.args.within.size.rows (omega arith) bad)))

pub loop-i-preserved : goal.loop-i-preserved
loop-i-preserved c =
    let line = line_is c.args.within.size.columns c.args.text.now c.loop-i.i c.line_long-line.result c.line_long-line.ensures.0 c.loop-i.invariant.reached in
    let d = c.in_ok-row_in.ensures.done in
    let room = rw (tail c.args.text.now (c.loop-i.i * c.line_long-line.result) c.loop-i.invariant.reached) at d.0 in
    record {
      reached = omega (arith, room, length-drop (c.loop-i.i * c.line_long-line.result) c.args.text.now, c.line_long-line.ensures.0);
      read = misread_more c.args.within.size.columns c.args.text.now c.loop-i.i c.loop-i.invariant.read (frame _ (rw line at c.in_ok-row_in.ensures.reason));
      words_are = words_more c.args.within.size.columns c.args.text.now c.loop-i.i c.wide-w.result _ c.loop-i.held c.args.held.now c.row_in.new.row c.wide-w.ensures.0 (omega arith) c.loop-i.invariant.words_are (rw line at d.1);
    }

pub returns-clause-reason : goal.returns-clause-reason
returns-clause-reason c =
    let e : c.loop-i.i ≡ c.args.within.size.rows = omega arith in
    no_fault _ (rw e at c.loop-i.invariant.read)

pub returns-clause-done : goal.returns-clause-done
unfolding words
returns-clause-done c =
    let e : c.loop-i.i ≡ c.args.within.size.rows = omega arith in
    (rw (e, c.line_long-line.ensures.0) at c.loop-i.invariant.reached, rw e at c.loop-i.invariant.words_are ∙ laid_all _ c.args.held.now (words_long c.args.within.size.rows c.args.within.size.columns c.args.text.now ∙ sym c.requires))
