-- From what was read to what is printed. Assumes nothing.
use mathlib.Core.Path.{◌≡◌, refl, sym, ap, ◌∙◌}
use mathlib.Core.Bool.{Bool, true, false, not}
use mathlib.Core.List.{List}
use Prim.Native.Nat.{ℕ, zero, suc, ◌≤◌}
use native.Mathlib.Omega.{arith}
use lib.Dec.{ltb}
use lib.ListN.{length, drop, length-append}
use Rattle.buffers.specs.Buffer.{cell, encode}
use Rattle.requests.specs.declared.Size.{Size}
use Rattle.requests.specs.Answers.{number_in, first}
use Rattle.requests.proofs.AnswerLaws.{append_given, append_none}
use Rattle.requests.proofs.NumberLaws.{first_number}
use Rattle.steps.specs.Matrix.{schoolbook}
use Rattle.matrix.specs.Job.{meant, product_size, total_of}
use Rattle.frames.specs.Header.{read_header_tests}
use Rattle.texts.specs.MatrixText.{size_in, words_in, rest_of, head_tests, matrix_tests}
use Rattle.texts.specs.Multiply.{form_tests, product_tests, multiply_tests, refusal, frames_of, product_text, answer_text, multiply_text, laid, placed, multiply_means}

-- a text in a buffer
abbrev pub printed : List ℕ → List ℕ → ℕ × List ℕ
printed text out = placed (not (ltb (length out) (length text))) text out

pub refusal_printed : (text out : List ℕ) (n : ℕ) → (n ≡ 0 → ⊥) → n ≡ first (multiply_tests text) → printed (refusal n) out ≡ multiply_means text out
unfolding multiply_means multiply_text answer_text
refusal_printed text out zero ne e = absurd (ne refl)
refusal_printed text out (suc n) ne e = rw (← e)

pub form_refused : (text : List ℕ) (n : ℕ) → (n ≡ 0 → ⊥) → n ≡ first (form_tests text) → n ≡ first (multiply_tests text)
unfolding multiply_tests
form_refused text n ne e = e ∙ sym (append_given (form_tests text) _ (λ z. ne (e ∙ z)))

-- the words of a text's faults are numbers
pub form_number : (text : List ℕ) → number_in (first (form_tests text)) ≡ first (form_tests text)
unfolding form_tests matrix_tests head_tests read_header_tests
form_number text = first_number (form_tests text)

module _ (text : List ℕ) (x y : Size) (a b : List ℕ) (form : 0 ≡ first (form_tests text)) (ex : x ≡ size_in text) (ey : y ≡ size_in (rest_of text)) (ea : a ≡ words_in text) (eb : b ≡ words_in (rest_of text)) where
  pub multiply_tests_lem : first (product_tests x y a b) ≡ first (multiply_tests text)
  unfolding multiply_tests form_tests matrix_tests head_tests read_header_tests
  multiply_tests_lem = rw (ex, ey, ea, eb) (sym (append_none (form_tests text) _ tt (sym form)))

  pub product_printed : (out ws : List ℕ) (total : ℕ) → 0 ≡ first (product_tests x y a b) → total ≡ total_of x (meant x 0) a → ws ≡ encode x.rows y.columns (schoolbook x.columns (cell x.columns a) (cell y.columns b))
      → printed (frames_of (product_size x y) ws total) out ≡ multiply_means text out
  unfolding multiply_means multiply_text answer_text product_text
  product_printed out ws total none et ew =
      let e : first (multiply_tests text) ≡ 0 = sym (none ∙ multiply_tests_lem) in
      rw (e, et, ew, ← ex, ← ey, ← ea, ← eb)

-- what is printed lies within its buffer
pub within : (text out : List ℕ) (n : ℕ) (new : List ℕ) → ◌≡◌ {A = ℕ × List ℕ} (n, new) (multiply_means text out) → n ≤ length new
unfolding multiply_means placed laid
within text out n new says = go (ltb (length out) (length (multiply_text text))) says
  where
    go : (t : Bool) → ◌≡◌ {A = ℕ × List ℕ} (n, new) (placed (not t) (multiply_text text) out) → n ≤ length new
    go true e = omega (arith, ap (λ (o : ℕ × List ℕ). o.0) e)
    go false e = omega (arith, ap (λ (o : ℕ × List ℕ). o.0) e, ap (λ (o : ℕ × List ℕ). length o.1) e, length-append (multiply_text text) (drop (length (multiply_text text)) out))
