-- What multiply prints says what it found: which number is given, or that none is. Assumes nothing.
use mathlib.Core.Path.{◌≡◌, refl, sym, ap, subst, ◌∙◌}
use mathlib.Core.Bool.{true, false}
use mathlib.Core.List.{List, [], ◌∷◌}
use Prim.Native.Nat.{ℕ, zero, suc, ◌<◌}
use native.Mathlib.Omega.{arith}
use lib.ListN.{get_or}
use Rattle.buffers.specs.Buffer.{tab}
use Rattle.requests.specs.declared.Size.{Size}
use Rattle.requests.specs.Answers.{Tests, first}
use Rattle.requests.specs.Faults.{faults}
use Rattle.requests.specs.Exact.{None, Gives}
use Rattle.requests.proofs.AnswerLaws.{given, gives, first_none, none_first}
use Rattle.hexadecimal.specs.Digit.{digit_of, byte_of, nibble}
use Rattle.hexadecimal.specs.Line.{hex_of, value_of}
use Rattle.hexadecimal.proofs.DigitLaws.{Says, value_said, byte_digit, nibble_lt}
use Rattle.frames.specs.Header.{header_of, read_header_tests}
use Rattle.texts.specs.MatrixText.{size_in, words_in, rest_of, head_tests, matrix_tests}
use Rattle.texts.specs.Multiply.{form_tests, product_tests, multiply_tests, refusal, frames_of, product_text, product_in, answer_text, multiply_text}

-- ---- refusal lines and the texts of products are told apart

number_says : (n : ℕ) → Says (refusal n) 8 2 n
unfolding refusal hex_of tab
number_says n zero l = refl
number_says n (suc zero) l = refl
number_says n (suc (suc k)) l = absurd (omega arith)

number_read : (n : ℕ) → n < 256 → value_of (refusal n) 8 2 ≡ n
number_read n h = value_said (refusal n) 8 2 n (number_says n) (omega arith)

-- two numbers have two refusal lines
pub refusal_names : (m n : ℕ) → m < 256 → n < 256 → refusal m ≡ refusal n → m ≡ n
refusal_names m n hm hn e = sym (number_read m hm) ∙ ap (λ (l : List ℕ). value_of l 8 2) e ∙ number_read n hn

-- the letter r is no digit
digit_no_r : (d : ℕ) → d < 16 → byte_of d ≡ 114 → ⊥
unfolding digit_of
digit_no_r d h e =
    let z : d ≡ 16 = sym (byte_digit d h) ∙ ap digit_of e in
    omega arith

product_begins : (x y : Size) (a b : List ℕ) → get_or (product_text x y a b) 0 0 ≡ byte_of (nibble x.rows 3)
unfolding product_text frames_of header_of hex_of tab
product_begins x y a b = refl

-- no product's text is a refusal line
pub product_no_refusal : (x y : Size) (a b : List ℕ) (n : ℕ) → product_text x y a b ≡ refusal n → ⊥
unfolding refusal
product_no_refusal x y a b n e =
    digit_no_r (nibble x.rows 3) (nibble_lt x.rows 3) (sym (product_begins x y a b) ∙ ap (λ (l : List ℕ). get_or l 0 0) e)

-- ---- the numbers

-- a number that a test of multiply gives
pub data Number : ℕ → Type 0 where
  one : Number 1
  two : Number 2
  five : Number 5
  six : Number 6
  ten : Number 10
  eleven : Number 11

abbrev Numbers : Tests → Type 0
Numbers [] = Unit {0}
Numbers ((t, n) ∷ ts) = Number n × Numbers ts

numbers : (text : List ℕ) → Numbers (multiply_tests text)
unfolding multiply_tests form_tests matrix_tests head_tests read_header_tests product_tests faults
numbers text = (ten, (one, (eleven, (ten, (ten, (one, (eleven, (ten, (ten, (two, (five, (six, (five, (six, tt))))))))))))))

small : {n : ℕ} → Number n → n < 256
small one = omega arith
small two = omega arith
small five = omega arith
small six = omega arith
small ten = omega arith
small eleven = omega arith

first_number : (ts : Tests) → Numbers ts → (first ts ≡ 0 → ⊥) → Number (first ts)
unfolding first
first_number [] h ne = absurd (ne refl)
first_number ((true, n) ∷ ts) h ne = h.0
first_number ((false, n) ∷ ts) h ne = first_number ts h.1 ne

-- ---- what is printed

-- either no test holds and the product's text is printed, or one number is given, no other, and its refusal line is printed
pub data Printed (text : List ℕ) : Type 0 where
  product : None (multiply_tests text) → multiply_text text ≡ product_in text → Printed text
  refused : (k : ℕ) → Number k → Gives k (multiply_tests text) → ((j : ℕ) → Gives j (multiply_tests text) → j ≡ k) → multiply_text text ≡ refusal k → Printed text

printed : (text : List ℕ) (n : ℕ) → first (multiply_tests text) ≡ n → multiply_text text ≡ answer_text n (product_in text)
unfolding multiply_text
printed text n e = ap (λ (k : ℕ). answer_text k (product_in text)) e

no_test : (text : List ℕ) → first (multiply_tests text) ≡ 0 → None (multiply_tests text)
unfolding multiply_tests form_tests matrix_tests head_tests read_header_tests product_tests faults
no_test text e = first_none (multiply_tests text) tt e

-- nothing else is ever printed
pub multiply_either : (text : List ℕ) → Printed text
unfolding answer_text
multiply_either text = go (first (multiply_tests text)) refl
  where
    go : (n : ℕ) → first (multiply_tests text) ≡ n → Printed text
    go zero e = product (no_test text e) (printed text 0 e)
    go (suc n) e =
        let ne : (suc n ≡ 0 → ⊥) = λ z. omega arith in
        let k : Number (suc n) = rw e at (first_number (multiply_tests text) (numbers text) (λ z. ne (sym e ∙ z))) in
        refused (suc n) k (given (multiply_tests text) (suc n) ne e) (λ j g. sym (gives (multiply_tests text) j g) ∙ e) (printed text (suc n) e)

-- a refusal line is printed exactly when its number is given
pub multiply_refuses : (text : List ℕ) (k : ℕ) → (k ≡ 0 → ⊥) → k < 256 → (multiply_text text ≡ refusal k → Gives k (multiply_tests text)) × (Gives k (multiply_tests text) → multiply_text text ≡ refusal k)
multiply_refuses text k ne h = (forth (multiply_either text), back (multiply_either text))
  where
    forth : Printed text → multiply_text text ≡ refusal k → Gives k (multiply_tests text)
    forth (product none e) p = absurd (product_no_refusal (size_in text) (size_in (rest_of text)) (words_in text) (words_in (rest_of text)) k (sym e ∙ p))
    forth (refused j n g only e) p = subst (λ (i : ℕ). Gives i (multiply_tests text)) (refusal_names j k (small n) h (sym e ∙ p)) g

    back : Printed text → Gives k (multiply_tests text) → multiply_text text ≡ refusal k
    back (product none e) g = absurd (ne (sym (gives (multiply_tests text) k g) ∙ none_first (multiply_tests text) none))
    back (refused j n f only e) g = e ∙ ap refusal (sym (only k g))

-- the product's text is printed exactly when no test holds
pub multiply_prints : (text : List ℕ) → (multiply_text text ≡ product_in text → None (multiply_tests text)) × (None (multiply_tests text) → multiply_text text ≡ product_in text)
unfolding answer_text
multiply_prints text = (forth (multiply_either text), λ none. printed text 0 (none_first (multiply_tests text) none))
  where
    forth : Printed text → multiply_text text ≡ product_in text → None (multiply_tests text)
    forth (product none e) p = none
    forth (refused j n g only e) p = absurd (product_no_refusal (size_in text) (size_in (rest_of text)) (words_in text) (words_in (rest_of text)) j (sym p ∙ e))
