use mathlib.Core.Path.{ap}
use Prim.Native.Nat.{ℕ}
use Rattle.requests.specs.declared.Size.{Size}
use Rattle.buffers.specs.Buffer.{cell}
use Rattle.requests.proofs.AnswerLaws.{seen}
use Rattle.steps.specs.Count.{total}
use Rattle.steps.proofs.Counts.{total_le}
use Rattle.matrix.specs.Job.{meant}
use native.Mathlib.Omega.{arith}
use Rattle.matrix.proofs.Demand1.{total_exact}
use Rattle.wordcalls.proofs.total.call_total.Goals as goal

pub returns : goal.returns
unfolding total
returns c =
    let given = c.args in
    let s : Size = record { rows = given.rows; columns = given.columns } in
    let E = total_exact s given.width given.a.now c.total.result c.total.ensures in
    rw (ap (λ (o : ℕ × ℕ). o.0) c.told.ensures, ap (λ (o : ℕ × ℕ). o.1) c.told.ensures)
    (seen E (λ z. (E.right z, omega (arith, E.right z, total_le given.rows given.columns (meant s given.width) (cell given.columns given.a.now)))))
