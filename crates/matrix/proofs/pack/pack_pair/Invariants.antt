use mathlib.Core.Path.{◌≡◌}
use Prim.Native.Nat.{◌+◌, ◌-◌}
use lib.ListN.{length, get_or}
use Rattle.cells.specs.Bit.{word_of}
use Rattle.cells.specs.Digit.{unit_of, sign_of}
use Rattle.matrix.proofs.pack.pack_pair.Given as goal

abbrev pub invariant-loop-t : goal.invariant-loop-t
invariant-loop-t l =
    (l.unit ≡ word_of (λ k. unit_of (get_or l.digits (l.t + k) 0)) (length l.digits - l.t)) × (l.sign ≡ word_of (λ k. sign_of (get_or l.digits (l.t + k) 0)) (length l.digits - l.t))
