-- Shown out: an implementation that refuses everything, and one with a fixed answer, of each call. The one-cell sums of the library's own table,
-- computed from the calls' statements, in bytes. Assumes nothing.
use mathlib.Core.Path.{◌≡◌, refl, ap}
use mathlib.Core.List.{List, [], ◌∷◌}
use Prim.Native.Nat.{ℕ, ◌+◌, ◌*◌, ◌^◌}
use native.Mathlib.Omega.{arith}
use lib.Count.{count_trailing_zeros}
use lib.ListN.{get_or}
use Rattle.cells.specs.Any.{any, least}
use Rattle.cells.specs.Bit.{bit, word_of}
use Rattle.cells.specs.Counts.{sum, is, bits_of}
use Rattle.cells.specs.Digit.{combine, neg3, unit_of, sign_of}
use Rattle.buffers.specs.Buffer.{planes, wide, words, bit_at, unit, sign, cell, tab, joined, plane, encode}
use Rattle.buffers.specs.Fault.{stray, padded, stray_at, padded_at}
use Rattle.requests.specs.declared.Size.{Size}
use Rattle.requests.specs.Answers.{placed, first, left, answered}
use Rattle.requests.specs.Sizes.{over}
use Rattle.requests.specs.Faults.{faults}
use Rattle.requests.specs.Pair.{unequal}
use Rattle.requests.proofs.ShownOut.{ShownOut, shown_out, AnswerShownOut, answer_shown_out}
use Rattle.steps.specs.Matrix.{schoolbook}
use Rattle.steps.specs.Step.{lowest_bit, cleared, put, apply, run, opening}
use Rattle.steps.specs.StepList.{unless0, many, each, table_steps, row_steps, block_steps, blocks, block_width, steps}
use Rattle.steps.specs.Count.{quote, total}
use Rattle.steps.specs.Width.{better, cheapest, default_width}
use Rattle.steps.specs.Turn.{due, made, turn}
use Rattle.walk.specs.Ran.{found}
use Rattle.matrix.specs.Job.{meant}
use Rattle.matrix.specs.Combination.{combination_of}
use Rattle.matrix.specs.Negation.{negation_of}
use Rattle.matrix.specs.Turn.{turned_of}
use Rattle.matrix.specs.Record.{job_in, record_of}
use Rattle.wordbytes.specs.Bytes.{byte_of, value_of, words_in, bytes_of}
use Rattle.cface.specs.Limit.{above, unfit_bytes, misfit_bytes}
use Rattle.cface.specs.Check.{check_sizes, check_face_tests, check_face}
use Rattle.cface.specs.Pair.{pair_sizes, pair_face_tests}
use Rattle.cface.specs.Combination.{combination_face}
use Rattle.cface.specs.Negation.{negation_sizes, negation_face_tests, negation_face}
use Rattle.cface.specs.Count.{unfit_count, count_tests}
use Rattle.cface.specs.Width.{width_face}
use Rattle.cface.specs.Quote.{quote_face}
use Rattle.cface.specs.Product.{product_sizes, product_face_tests, product_face}
use Rattle.cface.specs.Record.{unfit_record}
use Rattle.cface.specs.Open.{open_sizes, open_face_tests, open_face}
use Rattle.cface.specs.Turn.{turn_sizes, turn_face_tests, turn_face}

abbrev one : Size
one = record { rows = 1; columns = 1 }

abbrev square : Size
square = record { rows = 8; columns = 8 }

abbrev none : Size
none = record { rows = 0; columns = 0 }

-- the eight bytes of a word below 256, and what comes after them
abbrev eight : ℕ → List ℕ → List ℕ
eight w rest = w ∷ 0 ∷ 0 ∷ 0 ∷ 0 ∷ 0 ∷ 0 ∷ 0 ∷ rest

-- one cell that holds 0, 1, 2, and sign without unit
abbrev zero1 : List ℕ
zero1 = eight 0 (eight 0 [])

abbrev one1 : List ℕ
one1 = eight 1 (eight 0 [])

abbrev two1 : List ℕ
two1 = eight 1 (eight 1 [])

abbrev stray1 : List ℕ
stray1 = eight 0 (eight 1 [])

-- a table of two rows of one cell, as opened and as made
abbrev new_table : List ℕ
new_table = eight 0 (eight 0 (eight 0 (eight 0 [])))

abbrev made_table : List ℕ
made_table = eight 0 (eight 0 (eight 1 (eight 0 [])))

-- the record of a job of m by m matrices, all of whose steps done were made in the last turn
abbrev job : ℕ → ℕ → ℕ → ℕ → List ℕ
job m width done ended = eight m (eight m (eight m (eight width (eight done (eight done (eight ended []))))))

abbrev Left : Type 0
Left = List ℕ × (List ℕ × List ℕ)

pub record Sums : Type 0 where
  pub checked : (check_face one one1 ≡ 0) × (check_face one stray1 ≡ 5 + 2 ^ 8)
  pub added : (combination_face one one 1 one1 one1 zero1 ≡ (0, two1)) × (combination_face one one 1 one1 two1 zero1 ≡ (0, zero1))
  pub kept : (combination_face one one 0 two1 one1 zero1 ≡ (0, two1)) × (combination_face one one 0 two1 stray1 zero1 ≡ (5 + 2 * 2 ^ 8, zero1)) × (combination_face one one (2 ^ 32 + 1) stray1 one1 zero1 ≡ (8, zero1))
  pub negated : (negation_face one one1 zero1 ≡ (0, two1)) × (negation_face one zero1 zero1 ≡ (0, zero1))
  pub multiplied : (product_face one one two1 one1 zero1 ≡ (0, two1)) × (product_face one one zero1 one1 zero1 ≡ (0, zero1))
  pub chosen : (width_face one 0 (eight 0 []) ≡ (0, eight 1 [])) × (width_face square 0 (eight 0 []) ≡ (0, eight 4 []))
  pub quoted : (quote_face one 0 (eight 0 []) ≡ (0, eight 2 [])) × (quote_face square 0 (eight 0 []) ≡ (0, eight 62 []))
  pub opened : (open_face none none 1 (job 0 0 0 0) [] [] [] [] ≡ (0, (job 0 1 0 0, ([], [])))) × (open_face none none 2 (job 0 0 0 0) [] [] [] [] ≡ (0, (job 0 2 0 0, ([], []))))
  pub moved : (turn_face (job 1 1 0 0) two1 one1 new_table zero1 2 ≡ (0, (job 1 1 2 1, (made_table, two1)))) × (turn_face (job 1 1 0 0) zero1 one1 new_table zero1 2 ≡ (0, (job 1 1 1 1, (made_table, zero1))))

pub sums : Sums
unfolding check_face check_face_tests check_sizes combination_face combination_of pair_face_tests pair_sizes negation_face negation_face_tests negation_sizes negation_of product_face product_face_tests product_sizes open_face open_face_tests open_sizes turn_face turn_face_tests turn_sizes unfit_record job_in record_of unfit_bytes misfit_bytes above words_in bytes_of value_of byte_of turned_of turn made count_tests unfit_count width_face quote_face meant default_width cheapest better quote due found schoolbook sum total steps blocks block_width block_steps row_steps table_steps each many unless0 bits_of lowest_bit cleared put apply run opening answered first left over unequal faults placed stray padded stray_at padded_at least any unit sign cell bit_at bit planes wide words encode joined plane tab word_of unit_of sign_of combine neg3 is count_trailing_zeros
sums = record {
  checked = (refl, refl);
  added = (refl, refl);
  kept = (refl, refl, refl);
  negated = (refl, refl);
  multiplied = (refl, refl);
  chosen = (refl, refl);
  quoted = (refl, refl);
  opened = (refl, refl);
  moved = (refl, refl);
}

-- a call answers the number itself
abbrev itself : ℕ → ℕ
itself n = n

two_zero : two1 ≡ zero1 → ⊥
two_zero e = let z : ◌≡◌ {A = ℕ} 1 0 = ap (λ (l : List ℕ). get_or l 0 0) e in omega arith

pub face_check_shown_out : AnswerShownOut {X = Size} {I = List ℕ} itself check_face
face_check_shown_out = answer_shown_out itself check_face one one1 stray1 (5 + 2 ^ 8) sums.checked.0 sums.checked.1 (λ e. omega arith)

pub face_combination_shown_out : ShownOut {X = Size × Size × ℕ × List ℕ × List ℕ} {I = List ℕ} {S = List ℕ} itself (λ x b. combination_face x.0 x.1 x.2 x.3 b x.4)
face_combination_shown_out = shown_out itself _ (one, one, 1, one1, zero1) one1 two1 two1 zero1 sums.added.0 sums.added.1 two_zero

pub face_negation_shown_out : ShownOut {X = Size × List ℕ} {I = List ℕ} {S = List ℕ} itself (λ x a. negation_face x.0 a x.1)
face_negation_shown_out = shown_out itself _ (one, zero1) one1 zero1 two1 zero1 sums.negated.0 sums.negated.1 two_zero

pub face_product_shown_out : ShownOut {X = Size × Size × List ℕ × List ℕ} {I = List ℕ} {S = List ℕ} itself (λ x a. product_face x.0 x.1 a x.2 x.3)
face_product_shown_out = shown_out itself _ (one, one, one1, zero1) two1 zero1 two1 zero1 sums.multiplied.0 sums.multiplied.1 two_zero

-- of the default too: it looks at the sizes
pub face_width_shown_out : ShownOut {X = ℕ × List ℕ} {I = Size} {S = List ℕ} itself (λ x s. width_face s x.0 x.1)
face_width_shown_out =
    shown_out itself _ (0, eight 0 []) one square (eight 1 []) (eight 4 []) sums.chosen.0 sums.chosen.1
    (λ e. let z : ◌≡◌ {A = ℕ} 1 4 = ap (λ (l : List ℕ). get_or l 0 0) e in omega arith)

pub face_quote_shown_out : ShownOut {X = ℕ × List ℕ} {I = Size} {S = List ℕ} itself (λ x s. quote_face s x.0 x.1)
face_quote_shown_out =
    shown_out itself _ (0, eight 0 []) one square (eight 2 []) (eight 62 []) sums.quoted.0 sums.quoted.1
    (λ e. let z : ◌≡◌ {A = ℕ} 2 62 = ap (λ (l : List ℕ). get_or l 0 0) e in omega arith)

pub face_open_shown_out : ShownOut {X = Size × Size × List ℕ × List ℕ × List ℕ × List ℕ × List ℕ} {I = ℕ} {S = Left} itself
    (λ x w. open_face x.0 x.1 w x.2 x.3 x.4 x.5 x.6)
face_open_shown_out =
    shown_out itself _ (none, none, job 0 0 0 0, [], [], [], []) 1 2 (job 0 1 0 0, ([], [])) (job 0 2 0 0, ([], [])) sums.opened.0 sums.opened.1
    (λ e. let z : ◌≡◌ {A = ℕ} 1 2 = ap (λ (o : Left). get_or o.0 24 0) e in omega arith)

pub face_turn_shown_out : ShownOut {X = List ℕ × List ℕ × List ℕ × List ℕ × ℕ} {I = List ℕ} {S = Left} itself
    (λ x a. turn_face x.0 a x.1 x.2 x.3 x.4)
face_turn_shown_out =
    shown_out itself _ (job 1 1 0 0, one1, new_table, zero1, 2) two1 zero1 (job 1 1 2 1, (made_table, two1)) (job 1 1 1 1, (made_table, zero1)) sums.moved.0 sums.moved.1
    (λ e. two_zero (ap (λ (o : Left). o.1.1) e))
