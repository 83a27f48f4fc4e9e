-- Calls that leave a count. Assumes nothing.
use mathlib.Core.Path.{◌≡◌, sym, ap, ◌∙◌}
use mathlib.Core.Bool.{false}
use mathlib.Core.List.{List, [], ◌∷◌}
use Prim.Native.Nat.{ℕ}
use lib.Dec.{ltb}
use lib.ListN.{length}
use Rattle.requests.specs.declared.Size.{Size}
use Rattle.requests.specs.declared.Reason.{Reason}
use Rattle.requests.specs.Answers.{reason_word, Tests, first, left, answered}
use Rattle.requests.specs.Exact.{None}
use Rattle.requests.specs.Sizes.{over}
use Rattle.requests.proofs.AnswerLaws.{later, first_none, append_given, refused, done_makes}
use Rattle.requests.proofs.WordLaws.{some_reason}
use Rattle.matrix.specs.Quote.{quote_tests}
use Rattle.cface.specs.Limit.{limit_tests}
use Rattle.cface.specs.Count.{unfit_count, count_tests}
use Rattle.cface.proofs.CarryLaws.{past_none, answered_first}

answered_same : {S : Type 0} (ts us : Tests) (old new : S) → first ts ≡ first us → answered ts old new ≡ answered us old new
unfolding answered
answered_same {S = S} ts us old new e = ap (λ (n : ℕ). (n, left n old new)) e

module _ (x : Size) (w : ℕ) (out new : List ℕ) where
  abbrev rest : Tests
  rest = (ltb 8 w, 3) ∷ (unfit_count (length out), 4) ∷ []

  -- refused for its size
  pub count_limited : (r : Reason) → reason_word r ≡ first (limit_tests x) → (reason_word r, out) ≡ answered (count_tests x w (length out)) out new
  unfolding count_tests
  count_limited r e = refused _ _ _ (reason_word r) (some_reason r) (append_given (limit_tests x) rest (λ z. some_reason r (e ∙ z)) ∙ sym e)

  module _ (within : first (limit_tests x) ≡ 0) (n : ℕ) where
    none : None (limit_tests x)
    none = first_none (limit_tests x) tt within

    -- .. by the library, which counts a size and a width, for its width
    pub count_refused : (r : Reason) → (reason_word r, 0) ≡ answered (quote_tests x w) 0 n → (reason_word r, out) ≡ answered (count_tests x w (length out)) out new
    unfolding count_tests quote_tests
    count_refused r e =
        let wide : reason_word r ≡ first ((ltb 8 w, 3) ∷ []) = ap (λ (o : ℕ × ℕ). o.0) e ∙ answered_first (quote_tests x w) 0 n ∙ later (over x) 1 ((ltb 8 w, 3) ∷ []) none.0 in
        refused _ _ _ (reason_word r) (some_reason r)
        (past_none (limit_tests x) rest none ∙ append_given ((ltb 8 w, 3) ∷ []) ((unfit_count (length out), 4) ∷ []) (λ z. some_reason r (wide ∙ z)) ∙ sym wide)

    -- .. or for the length of what is to hold the count, which else is left
    pub count_left : (k : ℕ) → (0, k) ≡ answered (quote_tests x w) 0 n → (k ≡ n) × (answered ((unfit_count (length out), 4) ∷ []) out new ≡ answered (count_tests x w (length out)) out new)
    unfolding count_tests quote_tests
    count_left k e =
        let d = done_makes (quote_tests x w) 0 n k e in
        let narrow : ltb 8 w ≡ false = (first_none (quote_tests x w) tt d.0).1.0 in
        (d.1, answered_same ((unfit_count (length out), 4) ∷ []) (count_tests x w (length out)) out new (sym (past_none (limit_tests x) rest none ∙ later (ltb 8 w) 3 ((unfit_count (length out), 4) ∷ []) narrow)))
