use Rattle.std.proofs.Common.{ℕ, ◌/◌, ◌^◌, ◌∙◌, ap, ap₂, arith, div-le_self}
use lib.Bits.{bit_or, bit_xor, or_lt}
use lib.Count.{ones, ones-le}
use Rattle.cells.specs.Lanes.{some_of}
use Rattle.cells.proofs.LanesLaws.{both_filled, good_apart}
use Rattle.cells.proofs.lanes.filled.Goals as goal

pub from-requires : goal.from-requires
from-requires c =
    let less = div-le_self c.some-ones.result (2 ^ c.args.lanes.put) in
    omega (arith, ones-le 64 _ (or_lt 64 (c.some-ones.result / 2 ^ c.args.lanes.put) c.some-twos.result (omega (arith, less, c.some-ones.type_inv)) c.some-twos.type_inv))

pub returns : goal.returns
returns c j n L =
    c.from.ensures
    ∙ ap ones (ap₂ (λ (a b : ℕ). bit_or (a / 2 ^ c.args.lanes.put) b) (c.some-ones.ensures ∙ ap₂ (some_of (bit_xor c.args.x.unit c.args.x.sign)) L.low L.top) (c.some-twos.ensures ∙ ap₂ (some_of c.args.x.sign) L.low L.top))
    ∙ both_filled j n c.args.lanes.put (bit_xor c.args.x.unit c.args.x.sign) c.args.x.sign L.put (good_apart c.args.x.unit c.args.x.sign c.requires.2)
