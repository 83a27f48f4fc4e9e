use Rattle.std.proofs.lemmas.Result.{err_from_is_err_and}
use mathlib.Core.Path.{refl, sym, ◌∙◌}
use Rattle.requests.proofs.AnswerLaws.{refused, finished}
use Rattle.matrix.specs.Turn.{turn_means}
use Rattle.requests.proofs.WordLaws.{some_reason}
use Rattle.matrix.proofs.JobLaws.{standing_ready, turn_given, turn_exceeds, turn_none, turn_done}
use native.Mathlib.Omega.{arith}
use mathlib.Core.Path.{ap}
use mathlib.Core.Bool.{Bool}
use mathlib.Core.List.{List}
use Prim.Native.Nat.{ℕ}
use Rattle.walk.specs.Factors.{matrix_of}
use Rattle.walk.proofs.CountLaws.{skip_within}
use Rattle.matrix.specs.declared.job.Job.{Job}
use Rattle.matrix.proofs.turn.turn.Goals as goal

pub returns-in_err-judged : goal.returns-in_err-judged
unfolding turn_means
returns-in_err-judged c =
    let p = err_from_is_err_and c.from_residual.result c.from_residual.ensures.1 in
    rw (p.1, p.2) (refused _ _ _ _ (some_reason _) (turn_given c.args.job c.args.a.now c.args.b.now c.args.table.now c.args.product.now _ c.in_err-judged.ensures (some_reason _)))

pub new-requires : goal.new-requires
new-requires c =
    let st = standing_ready c.args.job c.args.a.now c.args.b.now c.args.table.now c.args.product.now (sym c.in_ok-judged.ensures) in
    (st.m, st.l, st.left)

pub new-requires-2 : goal.new-requires-2
new-requires-2 c =
    let st = standing_ready c.args.job c.args.a.now c.args.b.now c.args.table.now c.args.product.now (sym c.in_ok-judged.ensures) in
    (st.l, st.n, st.right)

pub invariant_of-factors : goal.invariant_of-factors
invariant_of-factors c =
    let st = standing_ready c.args.job c.args.a.now c.args.b.now c.args.table.now c.args.product.now (sym c.in_ok-judged.ensures) in
    record { joined = c.new.ensures.1 ∙ sym c.new-2.ensures.0; some = st.some; narrow = st.width }

pub returns-then-job-at : goal.returns-then-job-at
unfolding turn_means
returns-then-job-at c =
    let left = c.new.ensures in
    let total = rw (left.0, left.1, left.2) at c.place-at.ensures.total_is in
    refused _ _ _ 7 (λ z. omega arith) (turn_exceeds c.args.job c.args.a.now c.args.b.now c.args.table.now c.args.product.now (sym c.in_ok-judged.ensures) (rw total at c.if-job-at.true))

pub blocks_part-requires : goal.blocks_part-requires
blocks_part-requires c =
    let st = standing_ready c.args.job c.args.a.now c.args.b.now c.args.table.now c.args.product.now (sym c.in_ok-judged.ensures) in
    let left = c.new.ensures in
    let right = c.new-2.ensures in (
      record { table = rw right.1 st.table; product = rw (left.0, right.1) st.product },
      c.place-at.ensures.within,
      skip_within c.new.result.rows c.new.result.columns c.args.job.width (matrix_of c.new.result) c.args.job.done c.place-at.result c.place-at.ensures,
    )

pub returns : goal.returns
unfolding turn_means
returns c =
    let left = c.new.ensures in
    let right = c.new-2.ensures in
    let stands = rw (left.0, left.1, left.2) at c.place-at.ensures in
    let ran = rw (left.0, left.1, left.2, right.1, right.2) at c.blocks_part.ensures in
    ap (λ (o : Job × (ℕ × (Bool × (List ℕ × List ℕ)))). (0, o)) (turn_done c.args.job c.args.a.now c.args.b.now c.args.table.now c.args.product.now c.blocks_part.new.table c.blocks_part.new.product c.args.budget c.min-made.result c.place-at.result stands (cc) ran)
    ∙ (finished _ _ _ _ (turn_none c.args.job c.args.a.now c.args.b.now c.args.table.now c.args.product.now (sym c.in_ok-judged.ensures) (rw stands.total_is at c.if-job-at.false)) refl)
