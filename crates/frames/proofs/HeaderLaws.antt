-- What a header line says. Assumes nothing.
use mathlib.Core.Path.{◌≡◌, refl, ◌∙◌}
use mathlib.Core.Bool.{Bool}
use mathlib.Core.List.{List, [], ◌∷◌, ◌++◌}
use Prim.Native.Nat.{ℕ, ◌+◌, ◌*◌, ◌≤◌}
use native.Mathlib.Omega.{arith}
use lib.ListN.{length, take, drop}
use Rattle.buffers.specs.Buffer.{tab}
use Rattle.requests.specs.declared.Size.{Size}
use Rattle.requests.specs.Sizes.{over}
use Rattle.hexadecimal.specs.Digit.{nibble}
use Rattle.hexadecimal.specs.Line.{hex_of, value_of}
use Rattle.hexadecimal.proofs.HexLaws.{value_part}
use Rattle.frames.specs.Header.{header_of, size_of}

-- the two counts, as the code reads them
pub rows_read : (line : List ℕ) (r : ℕ) → length line ≡ 9 → r ≡ value_of (take 4 line) 0 (length (take 4 line)) → r ≡ value_of line 0 4
rows_read line r long e = e ∙ value_part line 0 4 4 refl (omega (arith, long))

pub columns_read : (line : List ℕ) (c : ℕ) → length line ≡ 9 → c ≡ value_of (take 4 (drop 4 line)) 0 (length (take 4 (drop 4 line))) → c ≡ value_of line 4 4
columns_read line c long e = e ∙ value_part line 4 4 4 refl (omega (arith, long))

pub header_over : (line : List ℕ) (r c : ℕ) {b : Bool} → r ≡ value_of line 0 4 → c ≡ value_of line 4 4 → over (record { rows = r; columns = c }) ≡ b → over (size_of line) ≡ b
unfolding size_of over
header_over line r c e f h = rw (← e, ← f) h

pub header_read : (line : List ℕ) (r c : ℕ) → r ≡ value_of line 0 4 → c ≡ value_of line 4 4 → ◌≡◌ {A = ℕ × ℕ} (r, c) ((size_of line).rows, (size_of line).columns)
unfolding size_of
header_read line r c e f = rw (e, f)

-- ---- two counts of four digits are one number of eight

module _ (r c : ℕ) (hr : r ≤ 1024) (hc : c ≤ 1024) where
  n0 : nibble (r * 65536 + c) 0 ≡ nibble c 0
  unfolding nibble
  n0 = omega arith

  n1 : nibble (r * 65536 + c) 1 ≡ nibble c 1
  unfolding nibble
  n1 = omega arith

  n2 : nibble (r * 65536 + c) 2 ≡ nibble c 2
  unfolding nibble
  n2 = omega arith

  n3 : nibble (r * 65536 + c) 3 ≡ nibble c 3
  unfolding nibble
  n3 = omega arith

  n4 : nibble (r * 65536 + c) 4 ≡ nibble r 0
  unfolding nibble
  n4 = omega arith

  n5 : nibble (r * 65536 + c) 5 ≡ nibble r 1
  unfolding nibble
  n5 = omega arith

  n6 : nibble (r * 65536 + c) 6 ≡ nibble r 2
  unfolding nibble
  n6 = omega arith

  n7 : nibble (r * 65536 + c) 7 ≡ nibble r 3
  unfolding nibble
  n7 = omega arith

  eight : hex_of 8 (r * 65536 + c) ++ (10 ∷ []) ≡ hex_of 4 r ++ (hex_of 4 c ++ (10 ∷ []))
  unfolding hex_of tab
  eight = simp (n0, n1, n2, n3, n4, n5, n6, n7)

pub header_eight : (s : Size) → s.rows ≤ 1024 → s.columns ≤ 1024 → hex_of 8 (s.rows * 65536 + s.columns) ++ (10 ∷ []) ≡ header_of s
unfolding header_of
header_eight s hr hc = eight s.rows s.columns hr hc
