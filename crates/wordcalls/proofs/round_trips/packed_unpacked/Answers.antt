use mathlib.Core.Path.{refl}
use Rattle.std.specs.Prelude.{Ok, Err}
use Rattle.requests.proofs.WordLaws.{some_reason}
use Rattle.matrix.proofs.Demand1.{pack_exact}
use Rattle.matrix.proofs.RoundTrips.{pack_then_unpack}
use Rattle.wordcalls.proofs.DoneLaws.{done}
use Rattle.wordcalls.proofs.round_trips.packed_unpacked.Goals as goal

pub returns-in_err-pack : goal.returns-in_err-pack
returns-in_err-pack c =
    let given = c.args in
    λ h room. absurd (some_reason _ ((pack_exact given.s given.cells.now given.words.now (Err _) _ c.in_err-pack.ensures).numbered.done.1 h))

pub returns : goal.returns
returns c =
    let given = c.args in
    λ h room.
    let both = pack_then_unpack given.s given.cells.now given.words.now given.back.now (Ok tt) c.unpack.result _ _ c.in_ok-pack.ensures refl c.unpack.ensures room in
    (done c.unpack.result both.0, both.1)
