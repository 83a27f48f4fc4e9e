use mathlib.Core.Path.{refl, ap}
use mathlib.Core.Bool.{false}
use mathlib.Core.List.{List}
use Prim.Native.Nat.{ℕ}
use Rattle.std.specs.Prelude.{Ok, Err}
use Rattle.requests.specs.declared.Size.{Size}
use Rattle.requests.proofs.AnswerLaws.{stays, goes_on}
use Rattle.requests.proofs.WordLaws.{some_reason}
use Rattle.matrix.specs.declared.job.Job.{Job}
use Rattle.matrix.specs.Record.{record_of}
use Rattle.matrix.proofs.Demand1.{opening_exact}
use Rattle.matrix.proofs.Demand2.{opening_right}
use Rattle.wordcalls.proofs.opening.call_opening.Goals as goal

pub returns-in-Ok : goal.returns-in-Ok
unfolding record_of
returns-in-Ok c =
    let given = c.args in
    let says = c.in-Ok.ensures in
    let x : Size = record { rows = given.a_rows; columns = given.a_columns } in
    let y : Size = record { rows = given.b_rows; columns = given.b_columns } in
    let E = opening_exact x y given.width given.a.now given.b.now given.table.now given.product.now (Ok _) _ _ says in
    let right = opening_right x y given.width given.a.now given.b.now given.table.now given.product.now _ _ _ says in
    rw c.from.ensures (goes_on E.numbered refl (record { record_is = ap (λ (o : Job × (List ℕ × List ℕ)). record_of o.0 0 false) (E.right refl); table = right.0; product = right.1 }))

pub returns-in-Err : goal.returns-in-Err
returns-in-Err c =
    let given = c.args in
    let x : Size = record { rows = given.a_rows; columns = given.a_columns } in
    let y : Size = record { rows = given.b_rows; columns = given.b_columns } in
    let E = opening_exact x y given.width given.a.now given.b.now given.table.now given.product.now (Err c.in-Err.why) _ _ c.in-Err.ensures in
    rw c.from-in-Err.ensures (stays (λ (o : Job × (List ℕ × List ℕ)). (given.job.now, o.1)) E (some_reason c.in-Err.why))
