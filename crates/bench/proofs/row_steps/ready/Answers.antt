use Rattle.std.proofs.Common.{sym, ◌∙◌, arith}
use Rattle.std.proofs.lemmas.Bool.{not-true}
use Rattle.buffers.specs.Buffer.{planes}
use Rattle.rows.proofs.FaultLaws.{clean_legal}
use Rattle.bench.proofs.row_steps.ready.Goals as goal

pub stray-requires : goal.stray-requires
unfolding planes
stray-requires c = (omega arith, omega arith, omega arith)

pub returns : goal.returns
returns c = λ e. record { room = omega arith; legal = clean_legal _ _ _ (λ n. omega (arith, c.type_inv.a n)) (sym c.stray.ensures ∙ not-true c.stray.result e) }
