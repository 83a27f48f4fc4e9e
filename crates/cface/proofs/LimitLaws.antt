-- Sizes within the C face's limit, and lengths in bytes. Assumes nothing.
use mathlib.Core.Path.{◌≡◌, sym, ◌∙◌}
use mathlib.Core.Bool.{false, ◌||◌}
use mathlib.Core.List.{List, ◌∷◌}
use Prim.Native.Nat.{ℕ, ◌*◌, ◌≤◌}
use native.Mathlib.Nat.{mul-le-mul}
use native.Mathlib.Omega.{arith}
use lib.Dec.{ltb, eqb}
use lib.ListN.{length}
use borrow.Author.Tests.{ltb-false, eqb-true, eq-eqb, not-false}
use Rattle.cells.proofs.AnyLaws.{or_left, or_right}
use Rattle.buffers.specs.Buffer.{planes, wide, words}
use Rattle.requests.specs.declared.Size.{Size}
use Rattle.requests.specs.declared.Reason.{Reason}
use Rattle.requests.specs.Answers.{reason_word, Tests, first}
use Rattle.requests.specs.Sizes.{over, unfit}
use Rattle.requests.proofs.AnswerLaws.{append_given}
use Rattle.requests.proofs.WordLaws.{some_reason}
use Rattle.matrix.specs.Job.{table_size, product_size}
use Rattle.wordbytes.specs.Bytes.{words_in}
use Rattle.cface.specs.Limit.{above, limit_tests, both_limit_tests, unfit_bytes, misfit_bytes}
use Rattle.cface.specs.Room.{Room}
use Rattle.wordbytes.proofs.ByteLaws.{words_length}

-- a size that its limit refuses is refused by all tests that begin with the limit's
pub limit_given : (s : Size) (us : Tests) (r : Reason) → reason_word r ≡ first (limit_tests s) → reason_word r ≡ first ((over s, 1) ∷ (above s, 11) ∷ us)
limit_given s us r e = e ∙ sym (append_given (limit_tests s) us (λ z. some_reason r (e ∙ z)))

pub both_limit_given : (x y : Size) (us : Tests) (r : Reason) → reason_word r ≡ first (both_limit_tests x y) → reason_word r ≡ first ((over x || over y, 1) ∷ (above x || above y, 11) ∷ us)
both_limit_given x y us r e = e ∙ sym (append_given (both_limit_tests x y) us (λ z. some_reason r (e ∙ z)))

pub above_rows : (s : Size) → above s ≡ false → s.rows ≤ 64
unfolding above
above_rows s h = ltb-false 64 s.rows (or_left (ltb 64 s.rows) (ltb 64 s.columns) h)

pub above_columns : (s : Size) → above s ≡ false → s.columns ≤ 64
unfolding above
above_columns s h = ltb-false 64 s.columns (or_right (ltb 64 s.rows) (ltb 64 s.columns) h)

pub fit_bytes : (s : Size) (n : ℕ) → unfit_bytes s n ≡ false → n ≡ 8 * words s.rows s.columns
unfolding unfit_bytes
fit_bytes s n h = eqb-true n (8 * words s.rows s.columns) (not-false (eqb n (8 * words s.rows s.columns)) h)

-- a row of at most 64 columns has at most two words
pub two_words : (c : ℕ) → c ≤ 64 → wide c ≤ 2
unfolding wide planes
two_words c h = omega arith

pub words_small : (r c k : ℕ) → r ≤ k → c ≤ 64 → words r c ≤ k * 2
unfolding words
words_small r c k hr hc = mul-le-mul {n₂ = k} {m₂ = 2} hr (two_words c hc)

-- as many words as bytes say
pub fits_words : (s : Size) (n k : ℕ) → unfit_bytes s n ≡ false → n ≡ 8 * k → unfit s k ≡ false
unfolding unfit
fits_words s n k h e =
    let d : k ≡ words s.rows s.columns = omega (arith, fit_bytes s n h) in
    rw (eq-eqb k (words s.rows s.columns) d)

pub fits_in : (s : Size) (bs : List ℕ) → unfit_bytes s (length bs) ≡ false → unfit s (length (words_in bs)) ≡ false
fits_in s bs h = fits_words s (length bs) (length (words_in bs)) h (omega (arith, fit_bytes s (length bs) h, words_length bs))

pub room : (s : Size) (k n : ℕ) → s.rows ≤ k → s.columns ≤ 64 → unfit_bytes s n ≡ false → Room (k * 2) n
room s k n hr hc h = (omega (arith, fit_bytes s n h), omega (arith, fit_bytes s n h, words_small s.rows s.columns k hr hc))

-- the four lengths of a job
module _ (x y : Size) (w a b t p : ℕ) (h : misfit_bytes x y w a b t p ≡ false) where
  pub fit_a : unfit_bytes x a ≡ false
  unfolding misfit_bytes
  fit_a = or_left (unfit_bytes x a) _ h

  after_a : (unfit_bytes y b || (unfit_bytes (table_size y w) t || unfit_bytes (product_size x y) p)) ≡ false
  unfolding misfit_bytes
  after_a = or_right (unfit_bytes x a) _ h

  pub fit_b : unfit_bytes y b ≡ false
  fit_b = or_left (unfit_bytes y b) _ after_a

  after_b : (unfit_bytes (table_size y w) t || unfit_bytes (product_size x y) p) ≡ false
  after_b = or_right (unfit_bytes y b) _ after_a

  pub fit_table : unfit_bytes (table_size y w) t ≡ false
  fit_table = or_left (unfit_bytes (table_size y w) t) _ after_b

  pub fit_product : unfit_bytes (product_size x y) p ≡ false
  fit_product = or_right (unfit_bytes (table_size y w) t) _ after_b

-- the lengths of two matrices and of what is made of them
module _ (x y z : Size) (l m n : ℕ) (h : (unfit_bytes x l || (unfit_bytes y m || unfit_bytes z n)) ≡ false) where
  pub fits_a : unfit_bytes x l ≡ false
  fits_a = or_left (unfit_bytes x l) _ h

  after : (unfit_bytes y m || unfit_bytes z n) ≡ false
  after = or_right (unfit_bytes x l) _ h

  pub fits_b : unfit_bytes y m ≡ false
  fits_b = or_left (unfit_bytes y m) _ after

  pub fits_out : unfit_bytes z n ≡ false
  fits_out = or_right (unfit_bytes y m) _ after
