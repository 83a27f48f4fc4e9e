-- Digits read back: of a byte, of a number, of a line. Assumes nothing.
use mathlib.Core.Path.{◌≡◌, ap, ◌∙◌}
use mathlib.Core.Bool.{false}
use mathlib.Core.List.{List}
use Prim.Native.Nat.{ℕ, zero, suc, ◌+◌, ◌-◌, ◌*◌, ◌/◌, ◌^◌, ◌≤◌, ◌<◌}
use native.Mathlib.Decide.{dec_lt}
use native.Mathlib.Omega.{arith}
use lib.Pow.{shr-shr, shr_lt}
use lib.Dec.{ltb}
use lib.ListN.{length, get_or}
use borrow.Author.Tests.{lt-ltb, le-ltb, eq-eqb}
use Rattle.cells.specs.Any.{any}
use Rattle.cells.proofs.AnyLaws.{any_none}
use Rattle.hexadecimal.specs.Digit.{digit_of, byte_of, nibble}
use Rattle.hexadecimal.specs.Line.{value_of, undigit, unframed}
use Rattle.hexadecimal.proofs.HexLaws.{Digits}

-- ---- one digit

byte_low : (d : ℕ) → d < 10 → digit_of (byte_of d) ≡ d
unfolding digit_of byte_of
byte_low d l = simp (lt-ltb d 10 l, le-ltb (48 + d) 48 (omega arith), lt-ltb (48 + d) 58 (omega arith)) (omega arith)

byte_high : (d : ℕ) → 10 ≤ d → d < 16 → digit_of (byte_of d) ≡ d
unfolding digit_of byte_of
byte_high d l h = simp (le-ltb d 10 l, le-ltb (87 + d) 48 (omega arith), le-ltb (87 + d) 58 (omega arith), le-ltb (87 + d) 97 (omega arith), lt-ltb (87 + d) 103 (omega arith)) (omega arith)

pub byte_digit : (d : ℕ) → d < 16 → digit_of (byte_of d) ≡ d
byte_digit d h = go (dec_lt d 10)
  where
    go : Dec (d < 10) → digit_of (byte_of d) ≡ d
    go (yes l) = byte_low d l
    go (no l) = byte_high d (omega arith) h

pub digit_byte : (b : ℕ) → digit_of b < 16 → byte_of (digit_of b) ≡ b
unfolding digit_of byte_of
digit_byte b h = go (dec_lt b 48) (dec_lt b 58) (dec_lt b 97) (dec_lt b 103)
  where
    go : Dec (b < 48) → Dec (b < 58) → Dec (b < 97) → Dec (b < 103) → byte_of (digit_of b) ≡ b
    go (yes p) q r s = absurd (let z = simp (lt-ltb b 48 p) at h in omega arith)
    go (no p) (yes q) r s = simp (le-ltb b 48 (omega arith), lt-ltb b 58 q, lt-ltb (b - 48) 10 (omega arith)) (omega arith)
    go (no p) (no q) (yes r) s = absurd (let z = simp (le-ltb b 48 (omega arith), le-ltb b 58 (omega arith), lt-ltb b 97 r) at h in omega arith)
    go (no p) (no q) (no r) (yes s) =
        simp (le-ltb b 48 (omega arith), le-ltb b 58 (omega arith), le-ltb b 97 (omega arith), lt-ltb b 103 s, le-ltb (b - 87) 10 (omega arith)) (omega arith)
    go (no p) (no q) (no r) (no s) =
        absurd (let z = simp (le-ltb b 48 (omega arith), le-ltb b 58 (omega arith), le-ltb b 97 (omega arith), le-ltb b 103 (omega arith)) at h in omega arith)

pub nibble_lt : (v t : ℕ) → nibble v t < 16
unfolding nibble
nibble_lt v t = omega arith

-- ---- the number that a number's digits say

-- n digits of v from place x on, the highest first
abbrev pub Says : List ℕ → ℕ → ℕ → ℕ → Type 0
Says line x n v = (k : ℕ) → k < n → get_or line (x + k) 0 ≡ byte_of (nibble v (n - suc k))

peel : (v t : ℕ) → 16 * (v / 2 ^ (4 * suc t)) + nibble v t ≡ v / 2 ^ (4 * t)
unfolding nibble
peel v t =
    let e : 4 * t + 4 ≡ 4 * suc t = omega arith in
    rw (← e, ← shr-shr v (4 * t) 4) (omega arith)

module _ (line : List ℕ) (x n v : ℕ) (h : Says line x n v) (small : v < 2 ^ (4 * n)) where
  said : (m : ℕ) → m ≤ n → value_of line x m ≡ v / 2 ^ (4 * (n - m))
  unfolding value_of
  said zero l =
      let a : 0 + 4 * n ≡ 4 * n = omega arith in
      let e : v / 2 ^ (4 * n) < 2 ^ 0 = shr_lt 0 (4 * n) (rw a small) in
      let b : n - 0 ≡ n = omega arith in
      rw b (omega arith)
  said (suc m) l =
      let e : n - m ≡ suc (n - suc m) = omega arith in
      rw (said m (omega arith), h m (omega arith), byte_digit (nibble v (n - suc m)) (nibble_lt v (n - suc m)), e) (peel v (n - suc m))

  pub value_said : value_of line x n ≡ v
  value_said =
      let e : n - n ≡ 0 = omega arith in
      said n (omega arith) ∙ rw e (omega arith)

-- ---- the digits of the number that digits say

nibble_first : (v d : ℕ) → d < 16 → nibble (16 * v + d) 0 ≡ d
unfolding nibble
nibble_first v d h = omega arith

nibble_later : (v d t : ℕ) → d < 16 → nibble (16 * v + d) (suc t) ≡ nibble v t
unfolding nibble
nibble_later v d t h =
    let e : 4 + 4 * t ≡ 4 * suc t = omega arith in
    let q : (16 * v + d) / 2 ^ 4 ≡ v = omega arith in
    rw (← e, ← shr-shr (16 * v + d) 4 (4 * t), q)

pub nibble_value : (line : List ℕ) (x n : ℕ) → Digits line x n → (k : ℕ) → k < n → nibble (value_of line x n) (n - suc k) ≡ digit_of (get_or line (x + k) 0)
unfolding value_of
nibble_value line x zero h k l = absurd (omega arith)
nibble_value line x (suc m) h k l = go (nibble_value line x m (λ i j. h i (omega arith)) k) (dec_lt k m)
  where
    go : (k < m → nibble (value_of line x m) (m - suc k) ≡ digit_of (get_or line (x + k) 0)) → Dec (k < m) → nibble (value_of line x (suc m)) (suc m - suc k) ≡ digit_of (get_or line (x + k) 0)
    go ih (yes j) =
        let e : suc m - suc k ≡ suc (m - suc k) = omega arith in
        rw e (nibble_later (value_of line x m) (digit_of (get_or line (x + m) 0)) (m - suc k) (h m (omega arith)) ∙ ih j)
    go ih (no j) =
        let d : k ≡ m = omega arith in
        let e : suc m - suc m ≡ 0 = omega arith in
        rw (d, e) (nibble_first (value_of line x m) (digit_of (get_or line (x + m) 0)) (h m (omega arith)))

pub byte_value : (line : List ℕ) (x n : ℕ) → Digits line x n → (k : ℕ) → k < n → byte_of (nibble (value_of line x n) (n - suc k)) ≡ get_or line (x + k) 0
byte_value line x n h k l = ap byte_of (nibble_value line x n h k l) ∙ digit_byte (get_or line (x + k) 0) (h k l)

-- ---- a line of bytes of values is framed

pub framed_line : (line : List ℕ) (n : ℕ) (g : ℕ → ℕ) → length line ≡ n + 1 → ((k : ℕ) → k < n → get_or line k 0 ≡ byte_of (g k)) → ((k : ℕ) → g k < 16) → get_or line n 0 ≡ 10 → unframed line n ≡ false
unfolding unframed undigit
framed_line line n g long h small end =
    let a : any n (λ k. ltb 15 (digit_of (get_or line k 0))) ≡ false = any_none (λ k. ltb 15 (digit_of (get_or line k 0))) n (λ k l. (let e : digit_of (get_or line k 0) ≡ g k = ap digit_of (h k l) ∙ byte_digit (g k) (small k) in rw e (le-ltb 15 (g k) (omega (arith, small k))))) in
    rw (eq-eqb (length line) (n + 1) long, a, eq-eqb (get_or line n 0) 10 end)
