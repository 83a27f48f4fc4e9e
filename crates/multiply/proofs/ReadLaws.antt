-- Reads one after another, each behind what the ones before it gave. Assumes nothing.
use mathlib.Core.Path.{◌≡◌, refl, sym, ap, ◌∙◌}
use mathlib.Core.Bool.{Bool, true, false}
use mathlib.Core.List.{List, [], ◌++◌, append-nil}
use Prim.Native.Nat.{ℕ, ◌-◌, ◌≤◌, ◌<◌}
use native.Mathlib.Decide.{dec_lt}
use native.Mathlib.Omega.{arith}
use lib.ListN.{length, take}
use lib.Seq.{length-take-le, take_at}
use Rattle.texts.specs.Multiply.{multiply_text}
use Rattle.texts.specs.Stops.{stops}
use Rattle.texts.proofs.Limits.{reads_enough}
use Rattle.texts.proofs.StopsLaws.{stops_none}
use Rattle.texts.proofs.FirstFault.{first_fault}
use Rattle.multiply.specs.Reads.{Reads}

-- what holds between two reads: there was no fault before the last read, and there is none after it
pub record Goes (buffer : List ℕ) (bytes last : ℕ) : Type 0 where
  pub within : bytes ≤ length buffer
  pub part : last ≤ bytes
  pub before : stops (take (bytes - last) buffer) ≡ false
  pub after : stops (take bytes buffer) ≡ false

pub goes_none : (buffer : List ℕ) → Goes buffer 0 0
goes_none buffer = record { within = omega arith; part = omega arith; before = stops_none; after = stops_none }

-- ---- what is printed

-- whatever the rest of the input is: none where the last read gave nothing, and not looked at where a fault stopped the reading or the room is full
pub whole_input : (buffer rest : List ℕ) (bytes last : ℕ) → length buffer ≡ 16659 → Reads buffer bytes last → (last ≡ 0 → rest ≡ []) → multiply_text (take bytes buffer) ≡ multiply_text (take bytes buffer ++ rest)
whole_input buffer rest bytes last long R end = go (stops (take bytes buffer)) refl (dec_lt bytes (length buffer))
  where
    go : (b : Bool) → stops (take bytes buffer) ≡ b → Dec (bytes < length buffer) → multiply_text (take bytes buffer) ≡ multiply_text (take bytes buffer ++ rest)
    go true e d = sym (first_fault (take bytes buffer) rest e)
    go false e (yes l) = ap multiply_text (sym (append-nil (take bytes buffer)) ∙ ap (λ (r : List ℕ). take bytes buffer ++ r) (sym (end (R.ended e l))))
    go false e (no l) =
        let long-is : length (take bytes buffer) ≡ 16659 = length-take-le bytes buffer R.within ∙ omega (arith, R.within) in
        ap multiply_text (sym (take_at (take bytes buffer) rest 16659 long-is)) ∙ reads_enough (take bytes buffer ++ rest) 16659 (omega arith)
