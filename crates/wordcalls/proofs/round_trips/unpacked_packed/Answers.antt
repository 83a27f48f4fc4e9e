use mathlib.Core.Path.{refl}
use native.Mathlib.Omega.{arith}
use Rattle.std.specs.Prelude.{Ok, Err}
use Rattle.requests.proofs.WordLaws.{some_reason}
use Rattle.matrix.proofs.Demand1.{unpack_exact}
use Rattle.matrix.proofs.RoundTrips.{unpack_then_pack}
use Rattle.wordcalls.proofs.DoneLaws.{done}
use Rattle.wordcalls.proofs.round_trips.unpacked_packed.Goals as goal

pub returns-in_err-unpack : goal.returns-in_err-unpack
returns-in_err-unpack c =
    let given = c.args in
    λ h room. absurd (some_reason _ ((unpack_exact given.s given.a.now given.cells.now (Err _) _ c.in_err-unpack.ensures).numbered.done.1 h))

pub returns : goal.returns
returns c =
    let given = c.args in
    λ h room.
    let both = unpack_then_pack given.s given.a.now given.cells.now given.back.now (Ok tt) c.pack.result _ _ (λ n. omega (arith, c.type_inv.a n)) c.in_ok-unpack.ensures refl c.pack.ensures room in
    (done c.pack.result both.0, both.1)
