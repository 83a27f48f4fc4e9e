-- A, then B, then the end of a text. Assumes nothing.
use mathlib.Core.Path.{◌≡◌, sym, ap, ◌∙◌}
use mathlib.Core.List.{List, [], ◌∷◌, ◌++◌}
use Prim.Native.Nat.{ℕ, ◌<◌}
use native.Mathlib.Omega.{arith}
use lib.Dec.{ltb}
use lib.ListN.{length, take, drop}
use borrow.Author.Tests.{lt-ltb, le-ltb}
use Rattle.buffers.specs.Buffer.{words}
use Rattle.requests.specs.declared.Size.{Size}
use Rattle.requests.specs.Answers.{Tests, first}
use Rattle.requests.proofs.AnswerLaws.{here, later, append_given, append_none}
use Rattle.frames.specs.Header.{read_header_tests}
use Rattle.texts.specs.MatrixText.{size_in, words_in, rest_of, head_tests, matrix_tests}
use Rattle.texts.specs.Multiply.{form_tests}
use Rattle.texts.specs.Found.{Found, Matrices}
use Rattle.texts.proofs.LaidLaws.{laid_front}
use Rattle.texts.proofs.TextLaws.{words_long}

abbrev more : List ℕ → Tests
more text = (ltb 0 (length (rest_of (rest_of text))), 10) ∷ []

module _ (text : List ℕ) (n₁ : ℕ) (h₁ : n₁ ≡ first (matrix_tests text)) where
  pub form_first : (n₁ ≡ 0 → ⊥) → n₁ ≡ first (form_tests text)
  unfolding form_tests
  form_first ne = h₁ ∙ sym (append_given (matrix_tests text) _ (λ e. ne (h₁ ∙ e)))

  module _ (ok₁ : n₁ ≡ 0) (n₂ : ℕ) (h₂ : n₂ ≡ first (matrix_tests (rest_of text))) where
    past_first : first (form_tests text) ≡ first (matrix_tests (rest_of text) ++ more text)
    unfolding form_tests matrix_tests head_tests read_header_tests
    past_first = append_none (matrix_tests text) (matrix_tests (rest_of text) ++ more text) tt (sym h₁ ∙ ok₁)

    pub form_second : (n₂ ≡ 0 → ⊥) → n₂ ≡ first (form_tests text)
    form_second ne = h₂ ∙ sym (append_given (matrix_tests (rest_of text)) (more text) (λ e. ne (h₂ ∙ e))) ∙ sym past_first

    module _ (ok₂ : n₂ ≡ 0) where
      past_second : first (form_tests text) ≡ first (more text)
      unfolding matrix_tests head_tests read_header_tests
      past_second = past_first ∙ append_none (matrix_tests (rest_of text)) (more text) tt (sym h₂ ∙ ok₂)

      pub form_more : 0 < length (rest_of (rest_of text)) → 10 ≡ first (form_tests text)
      form_more l = sym (past_second ∙ here (ltb 0 (length (rest_of (rest_of text)))) 10 [] (lt-ltb 0 (length (rest_of (rest_of text))) l))

      pub form_done : length (rest_of (rest_of text)) ≡ 0 → 0 ≡ first (form_tests text)
      unfolding first
      form_done e = sym (past_second ∙ later (ltb 0 (length (rest_of (rest_of text)))) 10 [] (le-ltb 0 (length (rest_of (rest_of text))) (omega arith)))

-- ---- two matrices that were found

pub words_in_long : (text : List ℕ) → length (words_in text) ≡ words (size_in text).rows (size_in text).columns
unfolding words_in words
words_in_long text = words_long (size_in text).rows (size_in text).columns (drop 9 text)

front : (text : List ℕ) (s : Size) (rest old new : List ℕ) → Found text s rest old new → take (words s.rows s.columns) new ≡ words_in text
front text s rest old new F =
    rw F.words_are (laid_front (words_in text) old (words s.rows s.columns) (words_in_long text ∙ ap (λ (s : Size). words s.rows s.columns) (sym F.size_is)))

module _ (text : List ℕ) (x y : Size) (second rest a a₁ b b₁ : List ℕ) (F : Found text x second a a₁) (G : Found second y rest b b₁) where
  pub last_is : rest ≡ rest_of (rest_of text)
  last_is = G.rest_is ∙ ap rest_of F.rest_is

  pub matrices_are : Matrices text x y a₁ b₁
  matrices_are = record {
    x_is = F.size_is;
    y_is = G.size_is ∙ ap size_in F.rest_is;
    x_rows = F.few;
    x_columns = F.narrow;
    y_rows = G.few;
    y_columns = G.narrow;
    a_is = front text x second a a₁ F;
    b_is = front second y rest b b₁ G ∙ ap words_in F.rest_is;
  }
