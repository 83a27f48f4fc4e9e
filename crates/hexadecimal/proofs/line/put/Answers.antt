use mathlib.Core.Path.{◌≡◌, ap, ◌∙◌}
use Prim.Native.Nat.{ℕ, suc, ◌-◌}
use Rattle.hexadecimal.specs.Digit.{byte_of, nibble}
use Rattle.hexadecimal.specs.Line.{hex_of}
use Rattle.hexadecimal.proofs.LineLaws.{filled_next, filled_end, hex_length, hex_filled}
use native.Mathlib.Omega.{arith}
use Rattle.hexadecimal.proofs.line.put.Goals as goal

pub loop-k-preserved : goal.loop-k-preserved
unfolding nibble
loop-k-preserved c =
    let e : c.args.n - 1 - c.loop-k.k ≡ c.args.n - suc c.loop-k.k = omega arith in
    filled_next (λ i. byte_of (nibble c.args.v (c.args.n - suc i))) c.loop-k.k c.loop-k.line c.byte_of.result (omega arith) (c.byte_of.ensures ∙ ap (λ (t : ℕ). byte_of (nibble c.args.v t)) e) c.loop-k.invariant

pub returns : goal.returns
returns c = filled_end (λ i. byte_of (nibble c.args.v (c.args.n - suc i))) c.args.n c.loop-k.line (hex_of c.args.n c.args.v) (omega arith) (λ i l. c.loop-k.invariant i (omega arith)) (hex_length c.args.n c.args.v) (hex_filled c.args.n c.args.v)
