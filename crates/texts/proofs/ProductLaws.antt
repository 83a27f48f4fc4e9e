-- The product and the total of two matrices within the limit. Assumes nothing.
use mathlib.Core.Path.{◌≡◌, refl, sym, ap, ◌∙◌}
use mathlib.Core.Bool.{Bool, true, false, not, ◌||◌}
use mathlib.Core.List.{List, ◌∷◌, ◌++◌}
use Prim.Native.Nat.{ℕ, ◌*◌, ◌%◌, ◌^◌, ◌≤◌}
use native.Mathlib.Omega.{arith}
use lib.Dec.{ltb, eqb}
use lib.ListN.{length}
use Rattle.std.specs.Prelude.{Result, Ok, Err, IfOk, IsOk}
use Rattle.buffers.specs.Buffer.{planes, wide, words}
use Rattle.requests.specs.declared.Size.{Size}
use Rattle.requests.specs.declared.Buffer.TheVariants.{First, Second}
use Rattle.requests.specs.declared.Reason.{Reason}
use Rattle.requests.specs.Answers.{number_in, word, first, told}
use Rattle.requests.specs.Sizes.{over}
use Rattle.requests.specs.Faults.{faults, fault_numbers}
use Rattle.requests.proofs.SizeLaws.{not_over, not_unfit}
use Rattle.requests.proofs.NumberLaws.{first_number, pair_numbers}
use Rattle.requests.proofs.AnswerLaws.{here, later, first_none, none_first, finished}
use Rattle.matrix.specs.Job.{meant, table_size, product_size, total_of}
use Rattle.matrix.specs.Misfit.{misfit}
use Rattle.matrix.specs.Width.{width_means}
use Rattle.matrix.specs.Quote.{quote_tests}
use Rattle.matrix.specs.Opening.{opening_tests}
use Rattle.matrix.specs.Total.{total_tests, total_means}
use Rattle.matrix.proofs.JobLaws.{meant_le, table_long, width_done}
use Rattle.texts.specs.Multiply.{product_tests}
use Rattle.texts.proofs.TextLaws.{table_small, done_ok}

-- the width of a size within the limit is answered
pub width_ok : (x : Size) (a : Result ℕ Reason) → x.rows ≤ 128 → x.columns ≤ 128 → told 0 a ≡ width_means x 0 → IsOk a
unfolding width_means quote_tests
width_ok x a hr hc e =
    let z = none_first (quote_tests x 0) (not_over x (omega arith) (omega arith), (refl, tt)) in
    done_ok a (ap (λ (o : ℕ × ℕ). o.0) (e ∙ sym (finished (quote_tests x 0) 0 (meant x 0) (meant x 0) z refl)))

-- the width that a program is answered, and the words of its table
pub own_width : (x : Size) (w : ℕ) → x.rows ≤ 128 → x.columns ≤ 128 → w ≡ (width_means x 0).1 → (w ≡ meant x 0) × (w ≤ 8)
own_width x w hr hc e =
    let d = width_done x 0 w (not_over x (omega arith) (omega arith)) (omega arith) e in
    (d, omega (arith, d, meant_le x 0 (omega arith)))

pub own_table : (x : Size) (w c n : ℕ) → x.rows ≤ 128 → x.columns ≤ 128 → c ≤ 128 → w ≡ (width_means x 0).1 → n ≡ wide c
    → (1 * 2 ^ w % 18446744073709551616 * n ≡ words (2 ^ meant x 0) c) × (1 * 2 ^ w % 18446744073709551616 * n ≤ 1024)
unfolding wide
own_table x w c n hr hc narrow e eq =
    let W = own_width x w hr hc e in
    let d = rw (← eq) at (table_long w c (planes c) W.1 refl) in
    (d ∙ ap (λ (k : ℕ). words (2 ^ k) c) W.0, omega (arith, d, table_small w c W.1 narrow))

module _ (x y : Size) (a b : List ℕ) (xr : x.rows ≤ 128) (xc : x.columns ≤ 128) (yr : y.rows ≤ 128) (yc : y.columns ≤ 128) (la : length a ≡ words x.rows x.columns) (lb : length b ≡ words y.rows y.columns) where
  x_small : over x ≡ false
  x_small = not_over x (omega arith) (omega arith)

  y_small : over y ≡ false
  y_small = not_over y (omega arith) (omega arith)

  -- where no test holds, the total is counted too
  module _ (r : Result ℕ Reason) (h : first (product_tests x y a b) ≡ 0) (says : told 0 r ≡ total_means x 0 a) where
    total_told : ◌≡◌ {A = ℕ × ℕ} (told 0 r) (0, total_of x (meant x 0) a)
    unfolding total_means total_tests product_tests faults
    total_told =
        let d = first_none (product_tests x y a b) tt h in
        let none = none_first (total_tests x 0 a) (x_small, (refl, (not_unfit x (length a) la, (d.1.0, (d.1.1.0, tt))))) in
        says ∙ sym (finished (total_tests x 0 a) 0 (total_of x (meant x 0) a) (total_of x (meant x 0) a) none refl)

    pub total_done : word r ≡ 0
    total_done = ap (λ (o : ℕ × ℕ). o.0) total_told

    pub total_made : (P : Type 0) → P → IfOk r (λ total. (total ≡ total_of x (meant x 0) a) × P)
    total_made P p = go r total_told
      where
        go : (r : Result ℕ Reason) → ◌≡◌ {A = ℕ × ℕ} (told 0 r) (0, total_of x (meant x 0) a) → IfOk r (λ total. (total ≡ total_of x (meant x 0) a) × P)
        go (Ok n) e = (ap (λ (o : ℕ × ℕ). o.1) e, p)
        go (Err k) e = tt

  module _ (t p : ℕ) (lt : t ≡ words (2 ^ meant x 0) y.columns) (lp : p ≡ words x.rows y.columns) where
    fit : misfit x y (meant x 0) (length a) (length b) t p ≡ false
    unfolding misfit
    fit = rw (not_unfit x (length a) la, not_unfit y (length b) lb, not_unfit (table_size y (meant x 0)) t lt) (not_unfit (product_size x y) p lp)

    -- a product's number is that of its own tests
    pub product_tests_lem : number_in (first (opening_tests x y 0 a b t p)) ≡ first (product_tests x y a b)
    unfolding opening_tests product_tests
    product_tests_lem =
        first_number (opening_tests x y 0 a b t p)
        ∙ rw (pair_numbers First Second x y a b) (later (over x || over y) 1 _ (rw x_small y_small) ∙ go (not (eqb x.columns y.rows)))
      where
        go : (d : Bool) → first ((d, 2) ∷ (ltb 8 0, 3) ∷ (misfit x y (meant x 0) (length a) (length b) t p, 4) ∷ (fault_numbers x a ++ fault_numbers y b)) ≡ first ((d, 2) ∷ (fault_numbers x a ++ fault_numbers y b))
        go true = here true 2 _ refl ∙ sym (here true 2 _ refl)
        go false = later false 2 _ refl ∙ later (ltb 8 0) 3 _ refl ∙ later (misfit x y (meant x 0) (length a) (length b) t p) 4 _ fit ∙ sym (later false 2 _ refl)
