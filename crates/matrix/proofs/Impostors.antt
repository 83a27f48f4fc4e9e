-- Shown out by demand 2: an implementation that refuses everything, and one with a fixed answer. A table of sums of one cell, computed from
-- the requests' own statements, says that each request has two inputs that are done and leave different things, though all but one matrix is
-- the same in both. Besides, a tally that calls a row balanced by its ones and twos alone, and a combination that does not look at the second
-- matrix with the digit 0, or takes 2 for 1. Assumes nothing.
use mathlib.Core.Path.{◌≡◌, refl, sym, ap, ◌∙◌}
use mathlib.Core.Bool.{Bool, true, false, true≢false}
use mathlib.Core.List.{List, [], ◌∷◌}
use Prim.Native.Nat.{ℕ, ◌+◌, ◌*◌, ◌^◌}
use native.Mathlib.Omega.{arith}
use Rattle.std.specs.Prelude.{Result}
use lib.ListN.{get_or}
use Rattle.cells.specs.Any.{any, least}
use Rattle.cells.specs.Bit.{bit, word_of}
use Rattle.cells.specs.Counts.{sum, is}
use Rattle.cells.specs.Digit.{combine, neg3, mul3, unit_of, sign_of}
use Rattle.buffers.specs.Buffer.{planes, wide, words, bit_at, unit, sign, cell, tab, joined, plane, encode}
use Rattle.buffers.specs.Fault.{stray, padded, stray_at, padded_at}
use Rattle.requests.specs.declared.Size.{Size}
use Rattle.requests.specs.declared.Reason.{Reason}
use Rattle.requests.specs.Answers.{Answer, placed, word, held, first, left, answered}
use Rattle.requests.specs.Sizes.{over, unfit}
use Rattle.requests.specs.Faults.{faults}
use Rattle.requests.specs.Single.{single_tests}
use Rattle.requests.specs.Pair.{unequal, unfits, pair_tests}
use Rattle.requests.proofs.ShownOut.{ShownOut, shown_out, AnswerShownOut, answer_shown_out}
use Rattle.matrix.specs.Unpacked.{byte_at, bytes, unlike}
use Rattle.matrix.specs.Check.{check_tests, check_means}
use Rattle.matrix.specs.Pack.{pack_of, pack_tests, pack_means}
use Rattle.matrix.specs.Unpack.{unpack_of, unpack_tests, unpack_means}
use Rattle.matrix.specs.Combination.{combination_of, combination_means}
use Rattle.matrix.specs.Negation.{negation_of, negation_means}
use Rattle.matrix.specs.Scaling.{scaling_of, scaling_tests, scaling_means}
use Rattle.matrix.specs.Transpose.{transpose_of, transpose_means}
use Rattle.rows.specs.Tally.{columns_with, tally_row}
use Rattle.matrix.specs.declared.tally.Tallied.{Tallied}
use Rattle.matrix.specs.Tally.{balanced, tally_means, no_tally, tally_told}

abbrev one : Size
one = record { rows = 1; columns = 1 }

-- one cell that holds 0, 1, 2, and what no cell may hold: sign without unit, and a bit in the padding
abbrev zero1 : List ℕ
zero1 = 0 ∷ 0 ∷ []

abbrev one1 : List ℕ
one1 = 1 ∷ 0 ∷ []

abbrev two1 : List ℕ
two1 = 1 ∷ 1 ∷ []

abbrev stray1 : List ℕ
stray1 = 0 ∷ 1 ∷ []

abbrev padded1 : List ℕ
padded1 = 2 ∷ 0 ∷ []

-- a row with one of each level, and one that never uses the low level: 0 1 2, and 1 2
abbrev levels3 : List ℕ
levels3 = 6 ∷ 4 ∷ []

abbrev highs2 : List ℕ
highs2 = 3 ∷ 2 ∷ []

pub record Sums : Type 0 where
  pub checked : (check_means one one1 ≡ 0) × (check_means one stray1 ≡ 5 + 2 ^ 8) × (check_means one padded1 ≡ 6 + 2 ^ 8 + 2 ^ 32)
  pub added : (combination_means one one 1 one1 one1 zero1 ≡ (0, two1)) × (combination_means one one 1 one1 two1 zero1 ≡ (0, zero1)) × (combination_means one one 1 two1 two1 zero1 ≡ (0, one1))
  pub subtracted : (combination_means one one 2 zero1 one1 zero1 ≡ (0, two1)) × (combination_means one one 2 two1 one1 zero1 ≡ (0, one1)) × (combination_means one one 2 one1 one1 zero1 ≡ (0, zero1))
  pub kept : (combination_means one one 0 two1 one1 zero1 ≡ (0, two1)) × (combination_means one one 0 two1 stray1 zero1 ≡ (5 + 2 * 2 ^ 8, zero1)) × (combination_means one one 3 stray1 one1 zero1 ≡ (8, zero1))
  pub negated : (negation_means one one1 zero1 ≡ (0, two1)) × (negation_means one two1 zero1 ≡ (0, one1))
  pub scaled : (scaling_means one 2 one1 zero1 ≡ (0, two1)) × (scaling_means one 2 two1 zero1 ≡ (0, one1))
  pub transposed : (transpose_means one two1 zero1 ≡ (0, two1)) × (transpose_means one one1 zero1 ≡ (0, one1))
  pub packed : (pack_means one (2 ∷ []) zero1 ≡ (0, two1)) × (pack_means one (1 ∷ []) zero1 ≡ (0, one1))
  pub unpacked : (unpack_means one two1 (0 ∷ []) ≡ (0, 2 ∷ [])) × (unpack_means one one1 (0 ∷ []) ≡ (0, 1 ∷ []))
  pub tallied : (tally_means 1 one1 ≡ (0, (0 ∷ 1 ∷ 0 ∷ [], false))) × (tally_means 1 zero1 ≡ (0, (1 ∷ 0 ∷ 0 ∷ [], false))) × (tally_means 3 levels3 ≡ (0, (1 ∷ 1 ∷ 1 ∷ [], true))) × (tally_means 2 highs2 ≡ (0, (0 ∷ 1 ∷ 1 ∷ [], false)))

pub sums : Sums
unfolding check_means check_tests combination_means combination_of negation_means negation_of scaling_means scaling_tests scaling_of transpose_means transpose_of pack_means pack_tests pack_of unpack_means unpack_tests unpack_of tally_means tally_row balanced columns_with answered first left pair_tests single_tests over unequal unfits unfit unlike faults placed stray padded stray_at padded_at any least unit sign cell bit_at bit planes wide words encode joined plane tab word_of unit_of sign_of combine neg3 mul3 byte_at bytes sum is
sums = record {
  checked = (refl, refl, refl);
  added = (refl, refl, refl);
  subtracted = (refl, refl, refl);
  kept = (refl, refl, refl);
  negated = (refl, refl);
  scaled = (refl, refl);
  transposed = (refl, refl);
  packed = (refl, refl);
  unpacked = (refl, refl);
  tallied = (refl, refl, refl, refl);
}

-- 2 is not 1, in its words and in a byte
two_one : two1 ≡ one1 → ⊥
two_one e = let z : ◌≡◌ {A = ℕ} 1 0 = ap (λ (l : List ℕ). get_or l 1 0) e in omega arith

byte_two_one : ◌≡◌ {A = List ℕ} (2 ∷ []) (1 ∷ []) → ⊥
byte_two_one e = let z : ◌≡◌ {A = ℕ} 2 1 = ap (λ (l : List ℕ). get_or l 0 0) e in omega arith

two_zero : two1 ≡ zero1 → ⊥
two_zero e = let z : ◌≡◌ {A = ℕ} 1 0 = ap (λ (l : List ℕ). get_or l 0 0) e in omega arith

tallies_differ : ◌≡◌ {A = List ℕ × Bool} (0 ∷ 1 ∷ 0 ∷ [], false) (1 ∷ 0 ∷ 0 ∷ [], false) → ⊥
tallies_differ e = let z : ◌≡◌ {A = ℕ} 0 1 = ap (λ (v : List ℕ × Bool). get_or v.0 0 0) e in omega arith

pub combination_shown_out : ShownOut {X = Size × Size × ℕ × List ℕ × List ℕ} {I = List ℕ} {R = Answer} {S = List ℕ} word (λ x b. combination_means x.0 x.1 x.2 x.3 b x.4)
combination_shown_out = shown_out word _ (one, one, 1, one1, zero1) one1 two1 two1 zero1 sums.added.0 sums.added.1 two_zero

-- of what meets the statement of a combination, as a function of the digit and the two matrices alone
module _ (f : ℕ → List ℕ → List ℕ → ℕ × List ℕ) (meets : (d : ℕ) (a b : List ℕ) → f d a b ≡ combination_means one one d a b zero1) where
  -- with the digit 0 it still looks at the second matrix
  pub not_unseen : ((a b : List ℕ) → (f 0 a b).0 ≡ (f 0 a one1).0) → ⊥
  not_unseen unseen =
      let z : ◌≡◌ {A = ℕ} (5 + 2 * 2 ^ 8) 0 =
      sym (ap (λ (v : ℕ × List ℕ). v.0) (meets 0 two1 stray1 ∙ sums.kept.1)) ∙ unseen two1 stray1 ∙ ap (λ (v : ℕ × List ℕ). v.0) (meets 0 two1 one1 ∙ sums.kept.0) in
      omega arith

  -- it does not take the digit 2 for 1
  pub not_two_as_one : ((a b : List ℕ) → f 2 a b ≡ f 1 a b) → ⊥
  not_two_as_one alike =
      two_zero (sym (ap (λ (v : ℕ × List ℕ). v.1) (meets 1 one1 one1 ∙ sums.added.0)) ∙ ap (λ (v : ℕ × List ℕ). v.1) (sym (alike one1 one1) ∙ meets 2 one1 one1 ∙ sums.subtracted.2))

pub negation_shown_out : ShownOut {X = Size × List ℕ} {I = List ℕ} {R = Answer} {S = List ℕ} word (λ x a. negation_means x.0 a x.1)
negation_shown_out = shown_out word _ (one, zero1) one1 two1 two1 one1 sums.negated.0 sums.negated.1 two_one

pub scaling_shown_out : ShownOut {X = Size × ℕ × List ℕ} {I = List ℕ} {R = Answer} {S = List ℕ} word (λ x a. scaling_means x.0 x.1 a x.2)
scaling_shown_out = shown_out word _ (one, 2, zero1) one1 two1 two1 one1 sums.scaled.0 sums.scaled.1 two_one

pub transpose_shown_out : ShownOut {X = Size × List ℕ} {I = List ℕ} {R = Answer} {S = List ℕ} word (λ x a. transpose_means x.0 a x.1)
transpose_shown_out = shown_out word _ (one, zero1) two1 one1 two1 one1 sums.transposed.0 sums.transposed.1 two_one

pub pack_shown_out : ShownOut {X = Size × List ℕ} {I = List ℕ} {R = Answer} {S = List ℕ} word (λ x a. pack_means x.0 a x.1)
pack_shown_out = shown_out word _ (one, zero1) (2 ∷ []) (1 ∷ []) two1 one1 sums.packed.0 sums.packed.1 two_one

pub unpack_shown_out : ShownOut {X = Size × List ℕ} {I = List ℕ} {R = Answer} {S = List ℕ} word (λ x a. unpack_means x.0 a x.1)
unpack_shown_out = shown_out word _ (one, 0 ∷ []) two1 one1 (2 ∷ []) (1 ∷ []) sums.unpacked.0 sums.unpacked.1 byte_two_one

pub tally_shown_out : ShownOut {X = ℕ} {I = List ℕ} {R = ℕ} {S = List ℕ × Bool} (λ n. n) tally_means
tally_shown_out = shown_out (λ (n : ℕ). n) _ 1 one1 zero1 (0 ∷ 1 ∷ 0 ∷ [], false) (1 ∷ 0 ∷ 0 ∷ [], false) sums.tallied.0 sums.tallied.1 tallies_differ

-- no tally calls a row balanced wherever its ones and twos are equally many, as tallies did before Q-3
pub not_two_levels : (f : ℕ → List ℕ → Result Tallied Reason) → ((c : ℕ) (a : List ℕ) → tally_told (f c a) ≡ tally_means c a)
    → ((c : ℕ) (a : List ℕ) → word (f c a) ≡ 0 → get_or (held no_tally (f c a)).counts 1 0 ≡ get_or (held no_tally (f c a)).counts 2 0 → (held no_tally (f c a)).balanced ≡ true) → ⊥
not_two_levels f meets old =
    let said = meets 2 highs2 ∙ sums.tallied.3 in
    let even = ap (λ (v : ℕ × (List ℕ × Bool)). get_or v.1.0 1 0) said ∙ sym (ap (λ (v : ℕ × (List ℕ × Bool)). get_or v.1.0 2 0) said) in
    true≢false (sym (old 2 highs2 (ap (λ (v : ℕ × (List ℕ × Bool)). v.0) said) even) ∙ ap (λ (v : ℕ × (List ℕ × Bool)). v.1.1) said)

pub check_shown_out : AnswerShownOut {X = Size} {I = List ℕ} {R = Answer} word check_means
check_shown_out = answer_shown_out word check_means one one1 stray1 (5 + 2 ^ 8) sums.checked.0 sums.checked.1 (λ e. omega arith)
