use native.Mathlib.Omega.{arith}
use Rattle.requests.specs.declared.Size.{Size}
use Rattle.requests.proofs.AnswerLaws.{seen}
use Rattle.cface.proofs.Refusals.{open_exact}
use Rattle.bytecalls.proofs.RunLaws.{run_start, run_next, run_seen}
use Rattle.bytecalls.proofs.face.turns.seen_turns.Goals as goal

pub returns-then-opened-ne0 : goal.returns-then-opened-ne0
returns-then-opened-ne0 c =
    let given = c.args in
    let opened = c.nyuzolamba_open-opened in
    let x : Size = record { rows = given.a_rows; columns = given.a_columns } in
    let y : Size = record { rows = given.b_rows; columns = given.b_columns } in
    seen (open_exact x y given.width given.job.now given.a.now given.b.now given.table.now given.product.now opened.result _ opened.ensures) (λ z. absurd (c.if-opened-ne0.true z))

pub loop-budget-init : goal.loop-budget-init
loop-budget-init c =
    let given = c.args in
    let opened = c.nyuzolamba_open-opened in
    let x : Size = record { rows = given.a_rows; columns = given.a_columns } in
    let y : Size = record { rows = given.b_rows; columns = given.b_columns } in
    (run_start x y given.width given.job.now given.a.now given.b.now given.table.now given.product.now given.budgets.now opened.result _ opened.ensures c.if-opened-ne0.false)

pub returns-then-turned-ne0 : goal.returns-then-turned-ne0
returns-then-turned-ne0 c =
    let given = c.args in
    let opened = c.nyuzolamba_open-opened in
    let x : Size = record { rows = given.a_rows; columns = given.a_columns } in
    let y : Size = record { rows = given.b_rows; columns = given.b_columns } in
    let at = c.loop-budget in
    let turned = c.nyuzolamba_turn-turned in
    let T = run_next x y given.width given.job.now given.a.now given.b.now given.table.now given.product.now given.budgets.now opened.result _ opened.ensures c.if-opened-ne0.false at.budget-index turned.result (at.job, (at.table, at.product)) _ (omega arith) at.invariant turned.ensures in
    absurd (c.if-turned-ne0.true T.0)

pub loop-budget-preserved : goal.loop-budget-preserved
loop-budget-preserved c =
    let given = c.args in
    let opened = c.nyuzolamba_open-opened in
    let x : Size = record { rows = given.a_rows; columns = given.a_columns } in
    let y : Size = record { rows = given.b_rows; columns = given.b_columns } in
    let at = c.loop-budget in
    let turned = c.nyuzolamba_turn-turned in
    let T = run_next x y given.width given.job.now given.a.now given.b.now given.table.now given.product.now given.budgets.now opened.result _ opened.ensures c.if-opened-ne0.false at.budget-index turned.result (at.job, (at.table, at.product)) _ (omega arith) at.invariant turned.ensures in
    T.1

pub returns : goal.returns
returns c =
    let given = c.args in
    let opened = c.nyuzolamba_open-opened in
    let x : Size = record { rows = given.a_rows; columns = given.a_columns } in
    let y : Size = record { rows = given.b_rows; columns = given.b_columns } in
    let at = c.loop-budget in
    run_seen x y given.width given.job.now given.a.now given.b.now given.table.now given.product.now given.budgets.now opened.result _ opened.ensures c.if-opened-ne0.false at.budget-index (at.job, (at.table, at.product)) (omega arith) at.invariant
