use mathlib.Core.Path.{refl, ap}
use mathlib.Core.Bool.{Bool}
use mathlib.Core.List.{List}
use Prim.Native.Nat.{ℕ}
use Rattle.std.specs.Prelude.{Ok, Err}
use Rattle.requests.proofs.AnswerLaws.{stays, goes_on}
use Rattle.requests.proofs.WordLaws.{some_reason}
use Rattle.steps.specs.Turn.{turn}
use Rattle.matrix.specs.declared.job.Job.{Job}
use Rattle.matrix.specs.Record.{job_in, record_of}
use Rattle.matrix.specs.Turn.{turned_of}
use Rattle.matrix.proofs.Demand1.{turn_exact}
use Rattle.matrix.proofs.Demand2.{turn_right}
use Rattle.wordcalls.proofs.turn.call_turn.Goals as goal

abbrev Left : Type 0
Left = Job × (ℕ × (Bool × (List ℕ × List ℕ)))

pub returns-in-Ok : goal.returns-in-Ok
unfolding job_in record_of turned_of turn
returns-in-Ok c =
    let given = c.args in
    let says = rw c.from-found.ensures at c.in-Ok.ensures in
    let job = job_in given.job.now in
    let E = turn_exact job given.a.now given.b.now given.table.now given.product.now given.budget (Ok _) _ _ says in
    let right = turn_right job given.a.now given.b.now given.table.now given.product.now given.budget _ _ _ _ _ says in
    rw c.from.ensures (goes_on E.numbered refl (record { record_is = ap (λ (o : Left). record_of o.0 o.1.0 o.1.1.0) (E.right refl); table = right.0; product = right.1 }))

pub returns-in-Err : goal.returns-in-Err
unfolding job_in
returns-in-Err c =
    let given = c.args in
    let E = turn_exact (job_in given.job.now) given.a.now given.b.now given.table.now given.product.now given.budget (Err c.in-Err.why) _ _ (rw c.from-found.ensures at c.in-Err.ensures) in
    rw c.from-in-Err.ensures (stays (λ (o : Left). (given.job.now, o.1.1.1)) E (some_reason c.in-Err.why))
