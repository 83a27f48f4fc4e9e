use mathlib.Core.Path.{◌≡◌, refl, subst}
use Prim.Native.Nat.{ℕ}
use native.Mathlib.Omega.{arith}
use lib.ListN.{take, get_or}
use lib.Seq.{take_all}
use Rattle.std.specs.Prelude.{Ok, Err}
use Rattle.std.proofs.lemmas.Result.{err_from_is_err_and}
use Rattle.requests.proofs.AnswerLaws.{seen, goes_on}
use Rattle.requests.proofs.WordLaws.{some_reason}
use Rattle.steps.proofs.Turns.{led_none, led_more}
use Rattle.matrix.specs.Job.{meant, total_of}
use Rattle.matrix.specs.Stands.{Stands}
use Rattle.matrix.proofs.Demand1.{opening_exact}
use Rattle.matrix.proofs.Demand3.{facts, started, turn_on}
use Rattle.wordcalls.proofs.TurnsLaws.{reached}
use Rattle.wordcalls.proofs.turns.in_turns.Goals as goal

pub returns-in_err-job : goal.returns-in_err-job
returns-in_err-job c =
    let given = c.args in
    let p = err_from_is_err_and c.from_residual.result c.from_residual.ensures.1 in
    rw (p.1, p.2)
    (seen (opening_exact given.x given.y given.width given.a.now given.b.now given.table.now given.product.now (Err c.in_err-job.field-0.0) _ _ c.in_err-job.ensures) (λ z. absurd (some_reason _ z)))

pub loop-budget-init : goal.loop-budget-init
loop-budget-init c =
    let given = c.args in
    let k = meant given.x given.width in
    subst (λ (d : ℕ). Stands given.x given.y k given.a.now given.b.now d c.in_ok-job.job c.opening.new.table c.opening.new.product) (led_none given.budgets.now (total_of given.x k given.a.now))
    (started given.x given.y given.width given.a.now given.b.now given.table.now given.product.now _ _ _ c.in_ok-job.ensures)

-- a turn of a job that stands is not refused
pub returns-in_err-job-2 : goal.returns-in_err-job-2
returns-in_err-job-2 c =
    let given = c.args in
    let at = c.loop-budget in
    let F = facts given.x given.y given.width given.a.now given.b.now given.table.now given.product.now _ _ _ c.in_ok-job.ensures in
    let on = turn_on given.x given.y given.width given.a.now given.b.now F.m F.l F.n F.width F.left F.right _ (get_or given.budgets.now at.budget-index 0) at.job at.table at.product _ _ _ _ _ _ (omega arith) at.invariant c.in_err-job-2.ensures in
    absurd (some_reason _ on.0)

pub loop-budget-preserved : goal.loop-budget-preserved
loop-budget-preserved c =
    let given = c.args in
    let at = c.loop-budget in
    let F = facts given.x given.y given.width given.a.now given.b.now given.table.now given.product.now _ _ _ c.in_ok-job.ensures in
    let on = turn_on given.x given.y given.width given.a.now given.b.now F.m F.l F.n F.width F.left F.right _ (get_or given.budgets.now at.budget-index 0) at.job at.table at.product _ _ _ _ _ _ (omega arith) at.invariant c.in_ok-job-2.ensures in
    rw (led_more given.budgets.now (total_of given.x (meant given.x given.width) given.a.now) at.budget-index c.loop-budget-test.true) at on.1

pub returns : goal.returns
returns c =
    let given = c.args in
    let at = c.loop-budget in
    let E = opening_exact given.x given.y given.width given.a.now given.b.now given.table.now given.product.now (Ok _) _ _ c.in_ok-job.ensures in
    let F = facts given.x given.y given.width given.a.now given.b.now given.table.now given.product.now _ _ _ c.in_ok-job.ensures in
    let all : take at.budget-index given.budgets.now ≡ given.budgets.now = take_all at.budget-index _ c.loop-budget-test.false in
    goes_on E.numbered refl
    (reached given.x given.y given.width given.a.now given.b.now F.m F.l F.n F.width F.left F.right _ _ _ _ (rw all at at.invariant))
