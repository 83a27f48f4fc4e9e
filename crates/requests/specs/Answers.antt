-- The words that come back, each a number and its place, and the answer that a list of tests gives. Assumes nothing.
use Rattle.std.specs.Prelude.{Bool, true, false, List, [], ◌∷◌, Result, Ok, Err, ℕ, zero, suc, ◌+◌, ◌*◌, ◌/◌, ◌%◌, ◌^◌, ◌<◌}
use Rattle.requests.specs.declared.Buffer.{Buffer}
use Rattle.requests.specs.declared.Buffer.TheVariants.{First, Second, Third, Fourth}
use Rattle.requests.specs.declared.Place.{Place}
use Rattle.requests.specs.declared.Reason.{Reason}
use Rattle.requests.specs.declared.Reason.TheVariants.{TooLarge, SizesDiffer, WidthWrong, LengthWrong, StraySign, PaddingSet, StepsExceed, DigitWrong, ScaleWrong, NotAFrame, AboveLimit}

abbrev pub buffer_number : Buffer → ℕ
buffer_number First = 1
buffer_number Second = 2
buffer_number Third = 3
buffer_number Fourth = 4

-- a number and its place in one word; a number without a place is its own word
unfoldable pub placed : ℕ → Place → ℕ
placed n p = n + 2 ^ 8 * buffer_number p.buffer + 2 ^ 16 * p.row + 2 ^ 32 * p.column

abbrev pub reason_word : Reason → ℕ
reason_word TooLarge = 1
reason_word SizesDiffer = 2
reason_word WidthWrong = 3
reason_word LengthWrong = 4
reason_word (StraySign p) = placed 5 p
reason_word (PaddingSet p) = placed 6 p
reason_word StepsExceed = 7
reason_word (DigitWrong p) = placed 8 p
reason_word ScaleWrong = 8
reason_word NotAFrame = 10
reason_word AboveLimit = 11

-- what a request answers that holds nothing where it is done
abbrev pub Answer : Type 0
Answer = Result (Unit {0}) Reason

abbrev pub word : {T : Type 0} → Result T Reason → ℕ
word (Ok x) = 0
word (Err r) = reason_word r

-- what an answer holds; refused it holds nothing, and `none` stands for it
abbrev pub held : {S : Type 0} → S → Result S Reason → S
held none (Ok x) = x
held none (Err r) = none

-- what an answer says: its word, and what it holds
abbrev pub told : {S : Type 0} → S → Result S Reason → ℕ × S
told none a = (word a, held none a)

-- an answer as its types hold it: in a place, a row of 16 bits and a column of 32
pub record Fits (p : Place) : Type 0 where
  pub row : p.row < 2 ^ 16
  pub column : p.column < 2 ^ 32

abbrev pub TypedReason : Reason → Type 0
TypedReason TooLarge = Unit {0}
TypedReason SizesDiffer = Unit {0}
TypedReason WidthWrong = Unit {0}
TypedReason LengthWrong = Unit {0}
TypedReason (StraySign p) = Fits p
TypedReason (PaddingSet p) = Fits p
TypedReason StepsExceed = Unit {0}
TypedReason (DigitWrong p) = Fits p
TypedReason ScaleWrong = Unit {0}
TypedReason NotAFrame = Unit {0}
TypedReason AboveLimit = Unit {0}

abbrev pub Typed : {T : Type 0} → Result T Reason → Type 0
Typed (Ok x) = Unit {0}
Typed (Err r) = TypedReason r

-- what a word says: its number, and buffer, row and column, all 0 where there is no place
abbrev pub number_in : ℕ → ℕ
number_in w = w % 2 ^ 8

abbrev pub buffer_in : ℕ → ℕ
buffer_in w = w / 2 ^ 8 % 2 ^ 8

abbrev pub row_in : ℕ → ℕ
row_in w = w / 2 ^ 16 % 2 ^ 16

abbrev pub column_in : ℕ → ℕ
column_in w = w / 2 ^ 32

-- tests in their order, each with the word that it gives
abbrev pub Tests : Type 0
Tests = List (Bool × ℕ)

-- the word of the first test that holds, and 0 where none does
unfoldable pub first : Tests → ℕ
first [] = 0
first ((true, n) ∷ ts) = n
first ((false, n) ∷ ts) = first ts

-- what is left: where a word is given, what was there, and else what is new
unfoldable pub left : {S : Type 0} → ℕ → S → S → S
left zero old new = new
left (suc n) old new = old

-- the word, and what is left
unfoldable pub answered : {S : Type 0} → Tests → S → S → ℕ × S
answered ts old new = (first ts, left (first ts) old new)
