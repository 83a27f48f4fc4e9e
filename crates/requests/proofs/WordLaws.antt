-- A word says its number and its place, and two outcomes that satisfy one statement coincide, places included. Assumes nothing.
use mathlib.Core.Path.{◌≡◌, refl, sym, ap, subst⁻¹, ◌∙◌}
use mathlib.Core.Bool.{Bool, true, false, ◌&&◌}
use mathlib.Core.List.{List, [], ◌∷◌}
use Prim.Native.Nat.{ℕ, zero, suc, ◌+◌, ◌*◌, ◌%◌, ◌^◌, ◌≤◌, ◌<◌}
use native.Mathlib.Omega.{arith}
use lib.Dec.{T, ltb, ltb→lt}
use borrow.Author.Tests.{lt-ltb}
use Rattle.std.specs.Prelude.{Result, Ok, Err}
use Rattle.requests.specs.declared.Reason.{Reason}
use Rattle.requests.specs.declared.Reason.TheVariants.{TooLarge, SizesDiffer, WidthWrong, LengthWrong, StraySign, PaddingSet, StepsExceed, DigitWrong, ScaleWrong, NotAFrame, AboveLimit}
use Rattle.requests.specs.declared.Buffer.{Buffer}
use Rattle.requests.specs.declared.Buffer.TheVariants.{First, Second, Third, Fourth}
use Rattle.requests.specs.declared.Place.{Place}
use Rattle.requests.specs.Answers.{buffer_number, placed, Answer, reason_word, word, told, Fits, TypedReason, Typed, number_in, buffer_in, row_in, column_in, Tests, first, answered}
use Rattle.requests.proofs.AnswerLaws.{both, refused}

-- ---- a number and its place in one word

-- a buffer counts from 1
pub buffer_some : (b : Buffer) → 0 < buffer_number b
buffer_some First = omega arith
buffer_some Second = omega arith
buffer_some Third = omega arith
buffer_some Fourth = omega arith

pub buffer_few : (b : Buffer) → buffer_number b ≤ 4
buffer_few First = omega arith
buffer_few Second = omega arith
buffer_few Third = omega arith
buffer_few Fourth = omega arith

pub placed_positive : (n : ℕ) (p : Place) → ltb 0 (placed n p) ≡ true
unfolding placed
placed_positive n p = lt-ltb 0 (n + 2 ^ 8 * buffer_number p.buffer + 2 ^ 16 * p.row + 2 ^ 32 * p.column) (omega (arith, buffer_some p.buffer))

-- the number is the lowest byte, whatever the place
pub placed_number : (n : ℕ) (p : Place) → n < 2 ^ 8 → number_in (placed n p) ≡ n
unfolding placed
placed_number n p small = omega (arith, buffer_few p.buffer)

module _ (n : ℕ) (p : Place) (small : n < 2 ^ 8) (f : Fits p) where
  pub placed_buffer : buffer_in (placed n p) ≡ buffer_number p.buffer
  unfolding placed
  placed_buffer = omega (arith, buffer_few p.buffer, f.row)

  pub placed_row : row_in (placed n p) ≡ p.row
  unfolding placed
  placed_row = omega (arith, buffer_few p.buffer, f.row)

  pub placed_column : column_in (placed n p) ≡ p.column
  unfolding placed
  placed_column = omega (arith, buffer_few p.buffer, f.row)

  pub placed_fits : placed n p < 2 ^ 64
  unfolding placed
  placed_fits = omega (arith, buffer_few p.buffer, f.row, f.column)

-- ---- the word of an answer

-- it fits in 64 bits
pub reason_fits : (r : Reason) → TypedReason r → reason_word r < 2 ^ 64
reason_fits TooLarge h = omega arith
reason_fits SizesDiffer h = omega arith
reason_fits WidthWrong h = omega arith
reason_fits LengthWrong h = omega arith
reason_fits (StraySign p) h = placed_fits 5 p (omega arith) h
reason_fits (PaddingSet p) h = placed_fits 6 p (omega arith) h
reason_fits StepsExceed h = omega arith
reason_fits (DigitWrong p) h = placed_fits 8 p (omega arith) h
reason_fits ScaleWrong h = omega arith
reason_fits NotAFrame h = omega arith
reason_fits AboveLimit h = omega arith

pub word_fits : {T : Type 0} (a : Result T Reason) → Typed a → word a < 2 ^ 64
word_fits (Ok x) h = omega arith
word_fits (Err r) h = reason_fits r h

-- a reason's number is not 0, and so its word is not
pub reason_number : (r : Reason) → number_in (reason_word r) ≡ 0 → ⊥
reason_number TooLarge e = omega (arith, e)
reason_number SizesDiffer e = omega (arith, e)
reason_number WidthWrong e = omega (arith, e)
reason_number LengthWrong e = omega (arith, e)
reason_number (StraySign p) e = omega (arith, e, placed_number 5 p (omega arith))
reason_number (PaddingSet p) e = omega (arith, e, placed_number 6 p (omega arith))
reason_number StepsExceed e = omega (arith, e)
reason_number (DigitWrong p) e = omega (arith, e, placed_number 8 p (omega arith))
reason_number ScaleWrong e = omega (arith, e)
reason_number NotAFrame e = omega (arith, e)
reason_number AboveLimit e = omega (arith, e)

pub some_reason : (r : Reason) → reason_word r ≡ 0 → ⊥
some_reason r e = reason_number r (ap (λ (w : ℕ). w % 2 ^ 8) e)

pub number_zero : {T : Type 0} (a : Result T Reason) → number_in (word a) ≡ 0 → word a ≡ 0
number_zero (Ok x) e = refl
number_zero (Err r) e = absurd (reason_number r e)

-- ---- the reason of a word

-- a number that no reason has is named as `TooLarge` here
nth : List Reason → ℕ → Reason
nth [] n = TooLarge
nth (r ∷ rest) zero = r
nth (r ∷ rest) (suc n) = nth rest n

buffer_named : ℕ → Buffer
buffer_named zero = First
buffer_named (suc zero) = First
buffer_named (suc (suc zero)) = Second
buffer_named (suc (suc (suc zero))) = Third
buffer_named (suc (suc (suc (suc n)))) = Fourth

-- an 8 without a buffer is a scale's
eight : ℕ → Place → Reason
eight zero p = ScaleWrong
eight (suc b) p = DigitWrong p

said : ℕ → ℕ → Place → Reason
said n b p =
    nth (TooLarge ∷ TooLarge ∷ SizesDiffer ∷ WidthWrong ∷ LengthWrong ∷ StraySign p ∷ PaddingSet p ∷ StepsExceed ∷ eight b p ∷ TooLarge ∷ NotAFrame ∷ AboveLimit ∷ []) n

place_in : ℕ → Place
place_in w = record { buffer = buffer_named (buffer_in w); row = row_in w; column = column_in w }

named : ℕ → Reason
named w = said (number_in w) (buffer_in w) (place_in w)

buffer_named_lem : (b : Buffer) → buffer_named (buffer_number b) ≡ b
unfolding buffer_named
buffer_named_lem First = refl
buffer_named_lem Second = refl
buffer_named_lem Third = refl
buffer_named_lem Fourth = refl

eight_named : (b : Buffer) (p : Place) → eight (buffer_number b) p ≡ DigitWrong p
unfolding eight
eight_named First p = refl
eight_named Second p = refl
eight_named Third p = refl
eight_named Fourth p = refl

named_placed : (n : ℕ) (p : Place) → n < 2 ^ 8 → Fits p → named (placed n p) ≡ said n (buffer_number p.buffer) p
unfolding named place_in
named_placed n p small f =
    let b = ap buffer_named (placed_buffer n p small f) ∙ buffer_named_lem p.buffer in
    let place : place_in (placed n p) ≡ p = λ t. record { buffer = b t; row = placed_row n p small f t; column = placed_column n p small f t } in
    λ t. said (placed_number n p small t) (placed_buffer n p small f t) (place t)

named_word : (r : Reason) → TypedReason r → named (reason_word r) ≡ r
unfolding named said nth place_in eight buffer_named
named_word TooLarge h = refl
named_word SizesDiffer h = refl
named_word WidthWrong h = refl
named_word LengthWrong h = refl
named_word (StraySign p) h = named_placed 5 p (omega arith) h
named_word (PaddingSet p) h = named_placed 6 p (omega arith) h
named_word StepsExceed h = refl
named_word (DigitWrong p) h = named_placed 8 p (omega arith) h ∙ eight_named p.buffer p
named_word ScaleWrong h = refl
named_word NotAFrame h = refl
named_word AboveLimit h = refl

-- a reason is determined by its word, and so is an answer
pub reason_same : (r s : Reason) → TypedReason r → TypedReason s → reason_word r ≡ reason_word s → r ≡ s
reason_same r s h k e = sym (named_word r h) ∙ ap named e ∙ named_word s k

pub word_same : (a b : Answer) → Typed a → Typed b → word a ≡ word b → a ≡ b
word_same (Ok x) (Ok y) h k e = refl
word_same (Ok x) (Err s) h k e = absurd (some_reason s (sym e))
word_same (Err r) (Ok y) h k e = absurd (some_reason r e)
word_same (Err r) (Err s) h k e = ap Err (reason_same r s h k e)

-- .. and so is one that holds a value, by its word and its value
pub told_same : {S : Type 0} (none : S) (a b : Result S Reason) → Typed a → Typed b → told none a ≡ told none b → a ≡ b
told_same {S = S} none (Ok x) (Ok y) h k e = ap Ok (ap (λ (o : ℕ × S). o.1) e)
told_same {S = S} none (Ok x) (Err s) h k e = absurd (some_reason s (sym (ap (λ (o : ℕ × S). o.0) e)))
told_same {S = S} none (Err r) (Ok y) h k e = absurd (some_reason r (ap (λ (o : ℕ × S). o.0) e))
told_same {S = S} none (Err r) (Err s) h k e = ap Err (reason_same r s h k (ap (λ (o : ℕ × S). o.0) e))

-- ---- two outcomes that satisfy one statement coincide

-- an outcome is a word and what is left; a statement is what they equal
pub words_coincide : {S : Type 0} (means : ℕ × S) (m n : ℕ) (s t : S) → (m, s) ≡ means → (n, t) ≡ means → (m ≡ n) × (s ≡ t)
words_coincide {S = S} means m n s t p q =
    let e : ◌≡◌ {A = ℕ × S} (m, s) (n, t) = p ∙ sym q in
    (ap (λ (o : ℕ × S). o.0) e, ap (λ (o : ℕ × S). o.1) e)

-- the same of an answer by its word
pub coincide : {S : Type 0} (means : ℕ × S) (a b : Answer) (s t : S) → Typed a → Typed b → (word a, s) ≡ means → (word b, t) ≡ means → (a ≡ b) × (s ≡ t)
coincide means a b s t h k p q =
    let e = words_coincide means (word a) (word b) s t p q in
    (word_same a b h k e.0, e.1)

-- where no test has a place, that says of the types all that is needed
small_reason : (r : Reason) → reason_word r < 2 ^ 8 → TypedReason r
unfolding placed
small_reason TooLarge h = tt
small_reason SizesDiffer h = tt
small_reason WidthWrong h = tt
small_reason LengthWrong h = tt
small_reason (StraySign p) h = absurd (omega (arith, buffer_some p.buffer))
small_reason (PaddingSet p) h = absurd (omega (arith, buffer_some p.buffer))
small_reason StepsExceed h = tt
small_reason (DigitWrong p) h = absurd (omega (arith, buffer_some p.buffer))
small_reason ScaleWrong h = tt
small_reason NotAFrame h = tt
small_reason AboveLimit h = tt

small_typed : {T : Type 0} (a : Result T Reason) → word a < 2 ^ 8 → Typed a
small_typed (Ok x) h = tt
small_typed (Err r) h = small_reason r h

abbrev pub placeless : Tests → Bool
placeless [] = true
placeless ((t, n) ∷ ts) = ltb n (2 ^ 8) && placeless ts

placeless_first : (ts : Tests) → T (placeless ts) → first ts < 2 ^ 8
unfolding first
placeless_first [] h = omega arith
placeless_first ((true, n) ∷ ts) h = ltb→lt n (2 ^ 8) (both (ltb n (2 ^ 8)) (placeless ts) h).0
placeless_first ((false, n) ∷ ts) h = placeless_first ts (both (ltb n (2 ^ 8)) (placeless ts) h).1

-- an answer whose tests have no place has none
pub placeless_typed : {S T₁ : Type 0} (ts : Tests) (old new : S) (a : Result T₁ Reason) (s : S) → T (placeless ts) → (word a, s) ≡ answered ts old new → Typed a
unfolding answered
placeless_typed {S = S} ts old new a s h e = small_typed a (subst⁻¹ (λ (n : ℕ). n < 2 ^ 8) (ap (λ (o : ℕ × S). o.0) e) (placeless_first ts h))

pub coincide_placeless : {S : Type 0} (ts : Tests) (old new : S) (a b : Answer) (s t : S) → T (placeless ts) → (word a, s) ≡ answered ts old new → (word b, t) ≡ answered ts old new
    → (a ≡ b) × (s ≡ t)
coincide_placeless ts old new a b s t h p q =
    coincide (answered ts old new) a b s t (placeless_typed ts old new a s h p) (placeless_typed ts old new b t h q) p q

-- ---- the two ways out of a request

-- it is refused by a reason, and what was there is left
pub refused_by : {S : Type 0} (ts : Tests) (old new : S) (r : Reason) → reason_word r ≡ first ts → (reason_word r, old) ≡ answered ts old new
refused_by ts old new r e = refused ts old new (reason_word r) (some_reason r) (sym e)
