use mathlib.Core.Path.{ap}
use Prim.Native.Nat.{ℕ}
use Rattle.requests.specs.declared.Size.{Size}
use Rattle.matrix.proofs.Demand1.{quote_exact}
use Rattle.wordcalls.proofs.quote.call_quote.Goals as goal

pub returns : goal.returns
returns c =
    let given = c.args in
    let s : Size = record { rows = given.rows; columns = given.columns } in
    rw (ap (λ (o : ℕ × ℕ). o.0) c.told.ensures, ap (λ (o : ℕ × ℕ). o.1) c.told.ensures)
    (quote_exact s given.width c.quote.result c.quote.ensures)
