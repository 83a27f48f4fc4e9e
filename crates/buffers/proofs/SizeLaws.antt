-- Sizes below the limit, and where a row lies. Assumes nothing.
use mathlib.Core.Path.{◌≡◌}
use Prim.Native.Nat.{ℕ, ◌+◌, ◌*◌, ◌/◌, ◌%◌, ◌≤◌, ◌<◌}
use native.Mathlib.Nat.{suc-mul, mul-le-mul, mul-le-mul_right}
use native.Mathlib.Omega.{arith}
use mathlib.Core.List.{List}
use lib.ListN.{get_or}
use Rattle.cells.specs.Bit.{bit}
use Rattle.cells.proofs.BitLaws.{bit_lt}
use Rattle.buffers.specs.Buffer.{planes, wide, words, bit_at, unit, sign, cell}

pub planes_le : (c : ℕ) → c ≤ 1024 → planes c ≤ 16
unfolding planes
planes_le c h = omega arith

-- the planes have room for the columns, and none of their words is padding alone
pub planes_room : (c : ℕ) → c ≤ 64 * planes c
unfolding planes
planes_room c = omega arith

pub planes_tight : (c : ℕ) → 64 * planes c < c + 64
unfolding planes
planes_tight c = omega arith

pub wide_is : (c : ℕ) → wide c ≡ planes c + planes c
unfolding wide
wide_is c = omega arith

pub row_in : (r c i : ℕ) → i < r → i * wide c + wide c ≤ words r c
unfolding words
row_in r c i h = rw (← suc-mul i (wide c)) (mul-le-mul_right (wide c) h)

pub words_le : (r c : ℕ) → r ≤ 1024 → c ≤ 1024 → words r c ≤ 32768
unfolding words wide
words_le r c hr hc =
    let h : 2 * planes c ≤ 32 = omega (arith, planes_le c hc) in
    mul-le-mul {n₂ = 1024} {m₂ = 32} hr h

-- row i of a matrix of n words, where q is the words of a plane
pub row_fits : (r c i q n : ℕ) → q ≡ planes c → n ≡ words r c → i < r → i * (2 * q) + (q + q) ≤ n
unfolding wide
row_fits r c i q n e l h = rw (e, l) (omega (arith, row_in r c i h))

-- column 64 p + t is place t of word p
pub bit_at_word : (ws : List ℕ) (x p t : ℕ) → t < 64 → bit_at ws x (64 * p + t) ≡ bit (get_or ws (x + p) 0) t
unfolding bit_at
bit_at_word ws x p t l =
    let d : (64 * p + t) / 64 ≡ p = omega arith in
    let m : (64 * p + t) % 64 ≡ t = omega arith in
    rw (d, m)

-- bits and cells of any buffer, at any place
pub bit_at_lt : (ws : List ℕ) (x j : ℕ) → bit_at ws x j < 2
unfolding bit_at
bit_at_lt ws x j = bit_lt (get_or ws (x + j / 64) 0) (j % 64)

module _ (c : ℕ) (ws : List ℕ) (i j : ℕ) where
  pub unit_small : unit c ws i j < 2
  unfolding unit
  unit_small = bit_at_lt ws (i * wide c) j

  pub sign_small : sign c ws i j < 2
  unfolding sign
  sign_small = bit_at_lt ws (i * wide c + planes c) j

  pub cell_lt : cell c ws i j < 3
  unfolding cell
  cell_lt = omega (arith, unit_small, sign_small)
