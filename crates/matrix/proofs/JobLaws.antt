-- What the tests of jobs say where none of them holds. Assumes nothing.
use mathlib.Core.Path.{◌≡◌, refl, sym, ap, subst, ◌∙◌}
use mathlib.Core.Bool.{Bool, false, ◌||◌}
use mathlib.Core.List.{List, []}
use Prim.Native.Nat.{ℕ, zero, suc, ◌+◌, ◌-◌, ◌*◌, ◌%◌, ◌^◌, ◌≤◌, ◌<◌, min}
use native.Mathlib.Omega.{arith}
use lib.Dec.{T, ltb, eqb}
use lib.ListN.{length, get_or}
use borrow.Author.Tests.{ltb-false, lt-ltb, le-ltb, eqb-true, eqb-false, not-false}
use Rattle.cells.proofs.AnyLaws.{or_left, or_right}
use Rattle.cells.specs.Digit.{Matrix}
use Rattle.buffers.specs.Buffer.{planes, wide, words, cell, Legal, encode}
use Rattle.buffers.proofs.BufferLaws.{legal_tests, cell_encode, encode_within, encode_legal, zeros_encode}
use Rattle.requests.specs.declared.Size.{Size}
use Rattle.requests.specs.Answers.{first, answered}
use Rattle.requests.specs.Sizes.{over, unfit}
use Rattle.requests.specs.Faults.{faults, pair_faults}
use Rattle.requests.proofs.SizeLaws.{over_rows, over_columns, unfit_long}
use Rattle.requests.specs.Exact.{None}
use Rattle.requests.specs.declared.Buffer.TheVariants.{First, Second, Third, Fourth}
use Rattle.requests.proofs.PairLaws.{faults_positive, pair_positive}
use Rattle.requests.proofs.AnswerLaws.{positive, positive_append, finished, none_first, first_none, append_given, append_none, here, later}
use Rattle.steps.specs.Step.{Step, run, opening}
use Rattle.steps.specs.StepList.{each, blocks, block_at}
use Rattle.steps.specs.Count.{quote, total}
use Rattle.steps.specs.Turn.{due, made, turn}
use Rattle.steps.proofs.Fits.{AllFit}
use Rattle.steps.proofs.Width.{default_is}
use Rattle.steps.proofs.Same.{SameState, run_same}
use Rattle.walk.specs.declared.place.Standing.{Standing}
use Rattle.walk.specs.Place.{StandsAt}
use Rattle.walk.specs.Ran.{found, Ran}
use Rattle.walk.proofs.CountLaws.{pow_small, shift_one}
use Rattle.walk.proofs.PieceLaws.{from_place}
use Rattle.matrix.specs.declared.job.Job.{Job}
use Rattle.matrix.specs.Job.{meant, table_size, product_size, total_of}
use Rattle.matrix.specs.Misfit.{misfit}
use Rattle.matrix.specs.Quote.{quote_tests, quote_means}
use Rattle.matrix.specs.Width.{width_means}
use Rattle.matrix.specs.Total.{total_tests}
use Rattle.matrix.specs.Opening.{opening_tests}
use Rattle.matrix.specs.Turn.{size_a, size_b, cell_tests, found_tests, late_tests, turn_tests, steps_of, made_of, on_job, turned_of}

pub meant_pos : (x : Size) (w : ℕ) → 0 < meant x w
unfolding meant
meant_pos x zero = (default_is x.rows x.columns).from
meant_pos x (suc w) = omega arith

pub meant_le : (x : Size) (w : ℕ) → w ≤ 8 → meant x w ≤ 8
unfolding meant
meant_le x zero h = (default_is x.rows x.columns).to
meant_le x (suc w) h = h

pub table_small : (y : Size) (w : ℕ) → w ≤ 8 → y.columns ≤ 1024 → over (table_size y w) ≡ false
unfolding over
table_small y w h l = rw (le-ltb 1024 (2 ^ w) (omega (arith, pow_small w h)), le-ltb 1024 y.columns l)

-- the words of a table, as the code comes by them
pub table_long : (k c q : ℕ) → k ≤ 8 → q ≡ planes c → 1 * 2 ^ k % 18446744073709551616 * (2 * q) ≡ words (2 ^ k) c
unfolding words wide
table_long k c q h e = rw (shift_one k h, e)

pub product_small : (x y : Size) → x.rows ≤ 1024 → y.columns ≤ 1024 → over (product_size x y) ≡ false
unfolding over
product_small x y h l = rw (le-ltb 1024 x.rows h, le-ltb 1024 y.columns l)

-- the four lengths
module _ (x y : Size) (w a b t p : ℕ) (h : misfit x y w a b t p ≡ false) where
  pub fit_a : unfit x a ≡ false
  unfolding misfit
  fit_a = or_left (unfit x a) _ h

  after_a : (unfit y b || (unfit (table_size y w) t || unfit (product_size x y) p)) ≡ false
  unfolding misfit
  after_a = or_right (unfit x a) _ h

  pub fit_b : unfit y b ≡ false
  fit_b = or_left (unfit y b) _ after_a

  after_b : (unfit (table_size y w) t || unfit (product_size x y) p) ≡ false
  after_b = or_right (unfit y b) _ after_a

  pub fit_table : unfit (table_size y w) t ≡ false
  fit_table = or_left (unfit (table_size y w) t) _ after_b

  pub fit_product : unfit (product_size x y) p ≡ false
  fit_product = or_right (unfit (table_size y w) t) _ after_b

pub quote_ready : (x : Size) (w : ℕ) → first (quote_tests x w) ≡ 0 → (over x ≡ false) × (w ≤ 8)
unfolding quote_tests
quote_ready x w z = let t : None (quote_tests x w) = first_none (quote_tests x w) tt z in (t.0, ltb-false 8 w t.1.0)

pub record Countable (x : Size) (w : ℕ) (a : List ℕ) : Type 0 where
  pub rows : x.rows ≤ 1024
  pub columns : x.columns ≤ 1024
  pub width : w ≤ 8
  pub legal : Legal x.rows x.columns a

pub total_ready : (x : Size) (w : ℕ) (a : List ℕ) → first (total_tests x w a) ≡ 0 → Countable x w a
unfolding total_tests faults
total_ready x w a z =
    let t : None (total_tests x w a) = first_none (total_tests x w a) (faults_positive First x a) z in
    record {
      rows = over_rows x t.0;
      columns = over_columns x t.0;
      width = ltb-false 8 w t.1.0;
      legal = legal_tests _ _ a (unfit_long x (length a) t.1.1.0) t.1.1.1.0 t.1.1.1.1.0;
    }

pub record Fitting (x y : Size) (w : ℕ) (a b : List ℕ) (t p : ℕ) : Type 0 where
  pub m : x.rows ≤ 1024
  pub l : x.columns ≤ 1024
  pub n : y.columns ≤ 1024
  pub width : w ≤ 8
  pub left : Legal x.rows x.columns a
  pub right : Legal x.columns y.columns b
  pub table : t ≡ words (2 ^ meant x w) y.columns
  pub product : p ≡ words x.rows y.columns

pub opening_ready : (x y : Size) (w : ℕ) (a b : List ℕ) (t p : ℕ) → first (opening_tests x y w a b t p) ≡ 0 → Fitting x y w a b t p
unfolding opening_tests faults
opening_ready x y w a b t p z =
    let h : None (opening_tests x y w a b t p) = first_none (opening_tests x y w a b t p) (pair_positive First Second x y a b) z in
    let small-x = or_left (over x) (over y) h.0 in
    let small-y = or_right (over x) (over y) h.0 in
    let same : x.columns ≡ y.rows = eqb-true _ _ (not-false (eqb x.columns y.rows) h.1.0) in
    let lengths = h.1.1.1.0 in
    let cells = h.1.1.1.1 in
    record {
      m = over_rows x small-x;
      l = over_columns x small-x;
      n = over_columns y small-y;
      width = ltb-false 8 w h.1.1.0;
      left = legal_tests _ _ a (unfit_long x _ (fit_a x y (meant x w) (length a) (length b) t p lengths)) cells.0 cells.1.0;
      right = rw same (legal_tests _ _ b (unfit_long y _ (fit_b x y (meant x w) (length a) (length b) t p lengths)) cells.1.1.0 cells.1.1.1.0);
      table = unfit_long (table_size y (meant x w)) t (fit_table x y (meant x w) (length a) (length b) t p lengths);
      product = unfit_long (product_size x y) p (fit_product x y (meant x w) (length a) (length b) t p lengths);
    }

pub cell_positive : (job : Job) (a b t p : List ℕ) → T (positive (cell_tests job a b t p))
cell_positive job a b t p =
    positive_append (pair_faults First Second (size_a job) (size_b job) a b) (pair_faults Third Fourth (table_size (size_b job) job.width) (product_size (size_a job) (size_b job)) t p)
    (pair_positive First Second (size_a job) (size_b job) a b) (pair_positive Third Fourth (table_size (size_b job) job.width) (product_size (size_a job) (size_b job)) t p)

pub found_positive : (job : Job) (a b t p : List ℕ) → T (positive (found_tests job a b t p))
unfolding found_tests
found_positive job a b t p = cell_positive job a b t p

pub turn_positive : (job : Job) (a b t p : List ℕ) → T (positive (turn_tests job a b t p))
unfolding turn_tests
turn_positive job a b t p = positive_append (found_tests job a b t p) (late_tests job a) (found_positive job a b t p) tt

pub record Ready (job : Job) (a b t p : List ℕ) : Type 0 where
  pub m : job.m ≤ 1024
  pub l : job.l ≤ 1024
  pub n : job.n ≤ 1024
  pub some : 0 < job.width
  pub width : job.width ≤ 8
  pub left : Legal job.m job.l a
  pub right : Legal job.l job.n b
  pub table : Legal (2 ^ job.width) job.n t
  pub product : Legal job.m job.n p

pub standing_ready : (job : Job) (a b t p : List ℕ) → first (found_tests job a b t p) ≡ 0 → Ready job a b t p
unfolding found_tests faults
standing_ready job a b t p z =
    let h : None (found_tests job a b t p) = first_none (found_tests job a b t p) (found_positive job a b t p) z in
    let x : Size = size_a job in
    let y : Size = size_b job in
    let w : ℕ = job.width in
    let small-x = or_left (over x) (over y) h.0 in
    let small-y = or_right (over x) (over y) h.0 in
    let some : w ≡ 0 → ⊥ = eqb-false w 0 (or_left (eqb w 0) (ltb 8 w) h.1.0) in
    let lengths = h.1.1.0 in
    let cells = h.1.1.1 in
    record {
      m = over_rows x small-x;
      l = over_columns x small-x;
      n = over_columns y small-y;
      some = omega arith;
      width = ltb-false 8 w (or_right (eqb w 0) (ltb 8 w) h.1.0);
      left = legal_tests _ _ a (unfit_long x _ (fit_a x y w (length a) (length b) (length t) (length p) lengths)) cells.0 cells.1.0;
      right = legal_tests _ _ b (unfit_long y _ (fit_b x y w (length a) (length b) (length t) (length p) lengths)) cells.1.1.0 cells.1.1.1.0;
      table = legal_tests _ _ t (unfit_long (table_size y w) _ (fit_table x y w (length a) (length b) (length t) (length p) lengths)) cells.1.1.1.1.0 cells.1.1.1.1.1.0;
      product = legal_tests _ _ p (unfit_long (product_size x y) _ (fit_product x y w (length a) (length b) (length t) (length p) lengths)) cells.1.1.1.1.1.1.0 cells.1.1.1.1.1.1.1.0;
    }

pub meant_some : (x : Size) (w : ℕ) → (w ≡ 0 → ⊥) → w ≡ meant x w
unfolding meant
meant_some x zero ne = absurd (ne refl)
meant_some x (suc w) ne = refl

-- the width meant is meant by itself
pub meant_again : (x : Size) (w : ℕ) → meant x (meant x w) ≡ meant x w
meant_again x w = sym (meant_some x (meant x w) (λ e. omega (arith, meant_pos x w)))

-- where neither sizes nor width are refused, the width and the quote are answered
count_done : (x : Size) (w new r : ℕ) → over x ≡ false → w ≤ 8 → r ≡ (answered (quote_tests x w) 0 new).1 → r ≡ new
unfolding quote_tests
count_done x w new r small narrow e =
    e ∙ ap (λ (o : ℕ × ℕ). o.1) (sym (finished (quote_tests x w) 0 new new (none_first (quote_tests x w) (small, (le-ltb 8 w narrow, tt))) refl))

pub width_done : (x : Size) (w r : ℕ) → over x ≡ false → w ≤ 8 → r ≡ (width_means x w).1 → r ≡ meant x w
unfolding width_means
width_done x w r small narrow e = count_done x w (meant x w) r small narrow e

pub quote_done : (x : Size) (w r : ℕ) → over x ≡ false → w ≤ 8 → r ≡ (quote_means x w).1 → r ≡ quote x.rows x.columns (meant x w)
unfolding quote_means
quote_done x w r small narrow e = count_done x w (quote x.rows x.columns (meant x w)) r small narrow e

-- ---- zero in a buffer

pub zero_legal : (r c : ℕ) (ws : List ℕ) → length ws ≡ words r c → ((k : ℕ) → get_or ws k 0 ≡ 0) → Legal r c ws
zero_legal r c ws long z = subst (Legal r c) (sym (zeros_encode r c ws long z)) (encode_legal r c (λ i j. 0))

-- ---- steps from the opening

module _ (k m l n : ℕ) (B : Matrix) (ps : List Step) (t p t' p' : List ℕ) (fit : AllFit m l k ps) (et : t ≡ encode (2 ^ k) n (λ i j. 0)) (ep : p ≡ encode m n (λ i j. 0)) (R : Ran k m n B ps t p t' p') where
  same_opening : SameState k m n (found n t p) opening
  unfolding found opening
  same_opening = record {
    table = rw et (λ x j h q. cell_encode (2 ^ k) n (λ i j. 0) x j h q (omega arith));
    product = rw ep (λ i j h q. cell_encode m n (λ i j. 0) i j h q (omega arith));
  }

  pub opened_table : t' ≡ encode (2 ^ k) n (run B ps opening).table
  opened_table = R.table ∙ encode_within (2 ^ k) n _ _ (run_same k m l n B B (λ i j h q. refl) ps (found n t p) opening fit same_opening).table

  pub opened_product : p' ≡ encode m n (run B ps opening).product
  opened_product = R.product ∙ encode_within m n _ _ (run_same k m l n B B (λ i j h q. refl) ps (found n t p) opening fit same_opening).product

-- ---- what a turn answers

module _ (job : Job) (a b t p : List ℕ) where
  abbrev count : ℕ
  count = total_of (size_a job) job.width a

  pub turn_given : (n : ℕ) → n ≡ first (found_tests job a b t p) → (n ≡ 0 → ⊥) → first (turn_tests job a b t p) ≡ n
  unfolding turn_tests
  turn_given n e ne = append_given (found_tests job a b t p) (late_tests job a) (λ z. ne (e ∙ z)) ∙ sym e

  module _ (none : first (found_tests job a b t p) ≡ 0) where
    past_found : first (turn_tests job a b t p) ≡ first (late_tests job a)
    unfolding turn_tests
    past_found = append_none (found_tests job a b t p) (late_tests job a) (found_positive job a b t p) none

    pub turn_exceeds : count < job.done → first (turn_tests job a b t p) ≡ 7
    turn_exceeds o = past_found ∙ here (ltb count job.done) 7 [] (lt-ltb count job.done o)

    pub turn_none : job.done ≤ count → first (turn_tests job a b t p) ≡ 0
    unfolding first
    turn_none o = past_found ∙ later (ltb count job.done) 7 [] (le-ltb count job.done o)

-- n steps from the place where the job stands are the turn
pub turn_done : (job : Job) (a b t p t' p' : List ℕ) (budget n : ℕ) (at : Standing) → StandsAt job.m job.l job.width (cell job.l a) job.done at → n ≡ min budget (at.total - job.done)
    → Ran job.width job.m job.n (cell job.n b) (due (job.done - at.before) n (each at.block (blocks job.l job.width) (block_at job.m job.l job.width (cell job.l a)))) t p t' p'
    → ◌≡◌ {A = Job × (ℕ × (Bool × (List ℕ × List ℕ)))} (on_job job (job.done + n), (n, (eqb (job.done + n) at.total, (t', p')))) (turned_of job a b t p budget)
unfolding turned_of turn made total
turn_done job a b t p t' p' budget n at S en R =
    let em : n ≡ made_of job a budget = en ∙ ap (λ (c : ℕ). min budget (c - job.done)) S.total_is in
    let seam = from_place job.m job.l job.width (cell job.l a) at.block at.before job.done n S.within S.before_is S.begun in
    let R' =
    subst (λ (ps : List Step). Ran job.width job.m job.n (cell job.n b) ps t p t' p') (sym seam ∙ ap (λ (c : ℕ). due job.done c (steps_of job a)) em) R in
    λ i. (on_job job (job.done + em i), (em i, (eqb (job.done + em i) (S.total_is i), (R'.table i, R'.product i))))
