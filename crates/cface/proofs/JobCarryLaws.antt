-- Product, opening and turn of the library on the words of bytes, carried over as in CarryLaws. Assumes nothing.
use mathlib.Core.Path.{◌≡◌, refl, sym, ap, ◌∙◌}
use mathlib.Core.Bool.{Bool, true, false, true≢false, not, ◌||◌}
use mathlib.Core.List.{List, [], ◌∷◌}
use Prim.Native.Nat.{ℕ, ◌*◌, ◌/◌, ◌^◌, ◌≤◌, ◌<◌}
use native.Mathlib.Omega.{arith}
use lib.Dec.{ltb, eqb}
use lib.ListN.{length}
use Rattle.std.specs.Prelude.{Ok, Err}
use borrow.Author.Tests.{le-ltb, ltb-false, eq-eqb, eqb-true, not-false}
use Rattle.cells.proofs.AnyLaws.{or_left, or_right}
use Rattle.buffers.specs.Buffer.{words}
use Rattle.requests.specs.declared.Size.{Size}
use Rattle.requests.specs.declared.Buffer.TheVariants.{First, Second}
use Rattle.requests.specs.declared.Reason.{Reason}
use Rattle.requests.specs.Answers.{Answer, reason_word, word, first, left, answered}
use Rattle.requests.specs.Sizes.{over, unfit}
use Rattle.requests.specs.Faults.{pair_faults}
use Rattle.requests.proofs.SizeLaws.{not_over, not_unfit}
use Rattle.requests.specs.Exact.{None}
use Rattle.requests.proofs.AnswerLaws.{here, first_none, done_makes}
use Rattle.requests.proofs.WordLaws.{some_reason}
use Rattle.steps.proofs.Width.{default_small}
use Rattle.walk.proofs.CountLaws.{pow_small}
use Rattle.matrix.specs.declared.job.Job.{Job}
use Rattle.matrix.specs.declared.turn.Turned.{Turned}
use Rattle.matrix.specs.Job.{meant, unmatched, table_size, product_size}
use Rattle.matrix.specs.Misfit.{misfit}
use Rattle.matrix.specs.Quote.{quote_tests}
use Rattle.matrix.specs.Width.{width_means}
use Rattle.matrix.specs.Opening.{size_tests, opening_tests, no_job, opened, opening_means}
use Rattle.matrix.specs.Product.{product_means}
use Rattle.matrix.specs.Turn.{size_a, size_b, found_tests, turn_tests, turned, turn_means}
use Rattle.matrix.specs.Record.{job_in, record_of}
use Rattle.matrix.proofs.JobLaws.{meant_pos, meant_le, meant_some, meant_again}
use Rattle.matrix.proofs.Demand3.{product_end}
use Rattle.wordbytes.specs.Bytes.{words_in, bytes_of}
use Rattle.cface.specs.Limit.{above, both_limit_tests, unfit_bytes, misfit_bytes}
use Rattle.cface.specs.Product.{product_sizes, product_face_tests, product_face}
use Rattle.cface.specs.Record.{unfit_record}
use Rattle.cface.specs.Open.{open_sizes, open_face_tests, open_bytes, open_face}
use Rattle.cface.specs.Turn.{turn_sizes, turn_words, turn_bytes, turn_face_tests, turn_face}
use Rattle.cface.specs.Room.{Room}
use Rattle.cface.proofs.LimitLaws.{room, fit_bytes, above_rows, above_columns, fits_words, fits_in, fits_a, fits_b, fits_out, fit_a, fit_b, fit_table, fit_product}
use Rattle.cface.proofs.CarryLaws.{past_none, answered_first, left_old, left_new, carried, unasked_by}

-- the library's tests of an opening, where no size, width or length is wrong
module _ (x y : Size) (w : ℕ) (a b : List ℕ) (t p : ℕ) (small : (over x || over y) ≡ false) (same : not (eqb x.columns y.rows) ≡ false) (narrow : ltb 8 w ≡ false) (fa : unfit_bytes x (length a) ≡ false) (fb : unfit_bytes y (length b) ≡ false) (ft : unfit (table_size y (meant x w)) t ≡ false) (fp : unfit (product_size x y) p ≡ false) where
  opening_left : first (opening_tests x y w (words_in a) (words_in b) t p) ≡ first (pair_faults First Second x y (words_in a) (words_in b))
  unfolding opening_tests misfit
  opening_left =
      past_none (size_tests x y w (words_in a) (words_in b) t p) (pair_faults First Second x y (words_in a) (words_in b)) (small, (same, (narrow, (rw (fits_in x a fa, fits_in y b fb, ft) fp, tt))))

-- ---- the width meant

module _ (x : Size) (w : ℕ) where
  pub width_given : (k : ℕ) → (0, k) ≡ width_means x w → (w ≤ 8) × (k ≡ meant x w)
  unfolding width_means quote_tests
  width_given k e =
      let d = done_makes (quote_tests x w) 0 (meant x w) k e in
      (ltb-false 8 w (first_none (quote_tests x w) tt d.0).1.0, d.1)

  -- a size that is not too large is refused for its width alone
  pub width_refused : (r : Reason) → over x ≡ false → (reason_word r, 0) ≡ width_means x w → (ltb 8 w ≡ true) × (reason_word r ≡ 3)
  unfolding width_means quote_tests first
  width_refused r small e = go (ltb 8 w) (rw small at (ap (λ (o : ℕ × ℕ). o.0) e ∙ answered_first (quote_tests x w) 0 (meant x w)))
    where
      go : (t : Bool) → reason_word r ≡ first ((false, 1) ∷ (t, 3) ∷ []) → (t ≡ true) × (reason_word r ≡ 3)
      go true e = (refl, e)
      go false e = absurd (some_reason r e)

-- the default width of a size within the face's limit
module _ (x : Size) (m : x.rows ≤ 64) (l : x.columns ≤ 64) where
  pub own_width : (k : ℕ) → (0, k) ≡ width_means x 0 → (0 < k) × (k ≤ 7)
  unfolding meant
  own_width k e =
      let d : k ≡ meant x 0 = (width_given x 0 k e).1 in
      (omega (arith, d, meant_pos x 0), omega (arith, d, default_small x.rows x.columns m l))

  pub own_width_given : (r : Reason) → (reason_word r, 0) ≡ width_means x 0 → ⊥
  own_width_given r e = true≢false (sym (width_refused x 0 r (not_over x (omega (arith, m)) (omega (arith, l))) e).0)

-- ---- product

module _ (x y : Size) (a b : List ℕ) (n : ℕ) (z : first (product_sizes x y (length a) (length b) n) ≡ 0) where
  product_none : None (product_sizes x y (length a) (length b) n)
  unfolding product_sizes
  product_none = first_none (product_sizes x y (length a) (length b) n) tt z

  small_a : above x ≡ false
  unfolding product_sizes
  small_a = or_left (above x) (above y) product_none.1.0

  small_b : above y ≡ false
  unfolding product_sizes
  small_b = or_right (above x) (above y) product_none.1.0

  bytes_a : unfit_bytes x (length a) ≡ false
  unfolding product_sizes
  bytes_a = fits_a x y (product_size x y) (length a) (length b) n product_none.1.1.1.0

  bytes_b : unfit_bytes y (length b) ≡ false
  unfolding product_sizes
  bytes_b = fits_b x y (product_size x y) (length a) (length b) n product_none.1.1.1.0

  bytes_out : unfit_bytes (product_size x y) n ≡ false
  unfolding product_sizes
  bytes_out = fits_out x y (product_size x y) (length a) (length b) n product_none.1.1.1.0

  pub product_limits : (x.rows ≤ 64) × (x.columns ≤ 64) × (y.columns ≤ 64)
  product_limits = (above_rows x small_a, above_columns x small_a, above_columns y small_b)

  pub product_room_a : Room 128 (length a)
  product_room_a = room x 64 (length a) (above_rows x small_a) (above_columns x small_a) bytes_a

  pub product_room_b : Room 128 (length b)
  product_room_b = room y 64 (length b) (above_rows y small_b) (above_columns y small_b) bytes_b

  pub product_room_out : Room 128 n
  product_room_out = room (product_size x y) 64 n (above_rows x small_a) (above_columns y small_b) bytes_out

  product_same : (w t k : ℕ) → 0 < w → w ≤ 7 → t ≡ words (2 ^ w) y.columns → n ≡ 8 * k → first (opening_tests x y w (words_in a) (words_in b) t k) ≡ first (product_face_tests x y a b n)
  unfolding product_face_tests product_sizes
  product_same w t k pos narrow et e =
      opening_left x y w a b t k product_none.0 product_none.1.1.0 (le-ltb 8 w (omega arith)) bytes_a bytes_b (rw (← meant_some x w (λ z. omega arith)) (not_unfit (table_size y w) t et)) (fits_words (product_size x y) n k bytes_out e)
      ∙ sym (past_none (product_sizes x y (length a) (length b) n) (pair_faults First Second x y (words_in a) (words_in b)) product_none)

pub product_carried : (x y : Size) (k : ℕ) (a b out u v t w t' w' : List ℕ) (f : ℕ) (r : Answer) → first (product_sizes x y (length a) (length b) (length out)) ≡ 0 → 0 < k → k ≤ 7 → length t ≡ words (2 ^ k) y.columns → length out ≡ 8 * length w
    → u ≡ words_in a → v ≡ words_in b → f ≡ word r → (word r, (t', w')) ≡ product_means x y k u v t w → (f, left f out (bytes_of w')) ≡ product_face x y a b out
unfolding product_means product_face
product_carried x y k a b out u v t w t' w' f r z pos narrow table room eu ev e says =
    let on : ◌≡◌ {A = ℕ × (List ℕ × List ℕ)} (word r, (t', w')) (product_means x y k (words_in a) (words_in b) t w) = rw (eu, ev) at says in
    carried {S = List ℕ × List ℕ} (λ o. bytes_of o.1) (opening_tests x y k (words_in a) (words_in b) (length t) (length w)) _ (t, w) _ (t', w') out _ f (word r) e on
    (product_same x y a b (length out) z k (length t) (length w) pos narrow table room) (λ ok _. ap bytes_of (product_end x y k (words_in a) (words_in b) t w r t' w' on ok))

-- the library refuses, and then it is done
module _ (x y : Size) (k : ℕ) (a b out u v t w t' w' : List ℕ) (z : first (product_sizes x y (length a) (length b) (length out)) ≡ 0) (own : (0 < k) × (k ≤ 7)) (table : length t ≡ words (2 ^ k) y.columns) (room : length out ≡ 8 * length w) (eu : u ≡ words_in a) (ev : v ≡ words_in b) where
  pub product_refused : (r : Reason) → (reason_word r, (t', w')) ≡ product_means x y k u v t w → (reason_word r, out) ≡ product_face x y a b out
  product_refused r says =
      left_old _ _ _ (some_reason r) ∙ product_carried x y k a b out u v t w t' w' _ (Err r) z own.0 own.1 table room eu ev refl says

  pub product_done : (new : List ℕ) → new ≡ bytes_of w' → (0, (t', w')) ≡ product_means x y k u v t w → (0, new) ≡ product_face x y a b out
  product_done new made says =
      left_new 0 out _ new refl made ∙ product_carried x y k a b out u v t w t' w' 0 (Ok tt) z own.0 own.1 table room eu ev refl says

-- ---- opening

-- the tests of an opening before that of the lengths: none holds, or that of the width
module _ (x y : Size) (width k l m t p : ℕ) (long : k ≡ 56) (within : first (both_limit_tests x y) ≡ 0) (same : x.columns ≡ y.rows) where
  none_within : None (both_limit_tests x y)
  none_within = first_none (both_limit_tests x y) tt within

  pub open_past : width ≤ 8 → first (open_sizes x y width k l m t p) ≡ first ((misfit_bytes x y (meant x width) l m t p, 4) ∷ [])
  unfolding open_sizes unfit_record
  open_past narrow =
      past_none ((unfit_record k, 4) ∷ (over x || over y, 1) ∷ (above x || above y, 11) ∷ (unmatched x y, 2) ∷ (ltb 8 width, 3) ∷ []) _
      (rw (eq-eqb k (8 * 7) long) refl, (none_within.0, (none_within.1.0, (rw (eq-eqb x.columns y.rows same) refl, (le-ltb 8 width narrow, tt)))))

  pub open_wide : ltb 8 width ≡ true → first (open_sizes x y width k l m t p) ≡ 3
  unfolding open_sizes unfit_record
  open_wide wide =
      past_none ((unfit_record k, 4) ∷ (over x || over y, 1) ∷ (above x || above y, 11) ∷ (unmatched x y, 2) ∷ []) _
      (rw (eq-eqb k (8 * 7) long) refl, (none_within.0, (none_within.1.0, (rw (eq-eqb x.columns y.rows same) refl, tt))))
      ∙ here (ltb 8 width) 3 _ wide

module _ (x y : Size) (width k : ℕ) (a b : List ℕ) (t p : ℕ) (z : first (open_sizes x y width k (length a) (length b) t p) ≡ 0) where
  open_none : None (open_sizes x y width k (length a) (length b) t p)
  unfolding open_sizes
  open_none = first_none (open_sizes x y width k (length a) (length b) t p) tt z

  lengths : misfit_bytes x y (meant x width) (length a) (length b) t p ≡ false
  unfolding open_sizes
  lengths = open_none.1.1.1.1.1.0

  open_a : above x ≡ false
  unfolding open_sizes
  open_a = or_left (above x) (above y) open_none.1.1.0

  open_b : above y ≡ false
  unfolding open_sizes
  open_b = or_right (above x) (above y) open_none.1.1.0

  open_width : meant x width ≤ 8
  unfolding open_sizes
  open_width = meant_le x width (ltb-false 8 width open_none.1.1.1.1.0)

  pub open_record : k ≡ 56
  unfolding open_sizes unfit_record
  open_record = eqb-true k (8 * 7) (not-false (eqb k (8 * 7)) open_none.0)

  pub open_room_a : Room 128 (length a)
  open_room_a = room x 64 (length a) (above_rows x open_a) (above_columns x open_a) (fit_a x y (meant x width) (length a) (length b) t p lengths)

  pub open_room_b : Room 128 (length b)
  open_room_b = room y 64 (length b) (above_rows y open_b) (above_columns y open_b) (fit_b x y (meant x width) (length a) (length b) t p lengths)

  pub open_room_table : Room 512 t
  open_room_table = room (table_size y (meant x width)) 256 t (pow_small (meant x width) open_width) (above_columns y open_b) (fit_table x y (meant x width) (length a) (length b) t p lengths)

  pub open_room_product : Room 128 p
  open_room_product = room (product_size x y) 64 p (above_rows x open_a) (above_columns y open_b) (fit_product x y (meant x width) (length a) (length b) t p lengths)

  pub open_same : (i j : ℕ) → t ≡ 8 * i → p ≡ 8 * j → first (opening_tests x y width (words_in a) (words_in b) i j) ≡ first (open_face_tests x y width k a b t p)
  unfolding open_face_tests open_sizes
  open_same i j ei ej =
      opening_left x y width a b i j open_none.1.0 open_none.1.1.1.0 open_none.1.1.1.1.0 (fit_a x y (meant x width) (length a) (length b) t p lengths) (fit_b x y (meant x width) (length a) (length b) t p lengths) (fits_words (table_size y (meant x width)) t i (fit_table x y (meant x width) (length a) (length b) t p lengths) ei) (fits_words (product_size x y) p j (fit_product x y (meant x width) (length a) (length b) t p lengths) ej)
      ∙ sym (past_none (open_sizes x y width k (length a) (length b) t p) (pair_faults First Second x y (words_in a) (words_in b)) open_none)

-- an opening at the width meant is that opening
module _ (x y : Size) (w : ℕ) (narrow : w ≤ 8) where
  pub sizes_meant : (k l m t p : ℕ) → open_sizes x y (meant x w) k l m t p ≡ open_sizes x y w k l m t p
  unfolding open_sizes
  sizes_meant k l m t p = rw (le-ltb 8 (meant x w) (meant_le x w narrow), le-ltb 8 w narrow, meant_again x w)

  pub open_meant : (r a b t p : List ℕ) → open_face x y (meant x w) r a b t p ≡ open_face x y w r a b t p
  unfolding open_face open_face_tests
  open_meant r a b t p = rw (sizes_meant (length r) (length a) (length b) (length t) (length p), meant_again x w)

-- what is so where no size, width or length of an opening is wrong
pub record Fits (x y : Size) (width k : ℕ) (a b : List ℕ) (t p : ℕ) : Type 0 where
  pub m : x.rows ≤ 64
  pub l : x.columns ≤ 64
  pub n : y.columns ≤ 64
  pub narrow : width ≤ 8
  pub bytes_a : length a ≡ 8 * words x.rows x.columns
  pub bytes_b : length b ≡ 8 * words x.columns y.columns
  pub table : t ≡ 8 * (t / 8)
  pub product : p ≡ 8 * (p / 8)

pub open_fits : (x y : Size) (width k : ℕ) (a b : List ℕ) (t p : ℕ) → first (open_sizes x y width k (length a) (length b) t p) ≡ 0 → Fits x y width k a b t p
unfolding open_sizes
open_fits x y width k a b t p z =
    let h = open_none x y width k a b t p z in
    let same : x.columns ≡ y.rows = eqb-true _ _ (not-false (eqb x.columns y.rows) h.1.1.1.0) in
    let size = lengths x y width k a b t p z in
    record {
      m = above_rows x (open_a x y width k a b t p z);
      l = above_columns x (open_a x y width k a b t p z);
      n = above_columns y (open_b x y width k a b t p z);
      narrow = ltb-false 8 width h.1.1.1.1.0;
      bytes_a = fit_bytes x (length a) (fit_a x y (meant x width) (length a) (length b) t p size);
      bytes_b = rw same (fit_bytes y (length b) (fit_b x y (meant x width) (length a) (length b) t p size));
      table = omega (arith, (open_room_table x y width k a b t p z).0);
      product = omega (arith, (open_room_product x y width k a b t p z).0);
    }

-- what the request for the width answered, handed on to an opening
module _ (x y : Size) (width w : ℕ) (job a b t p : List ℕ) (z : first (open_sizes x y width (length job) (length a) (length b) (length t) (length p)) ≡ 0) (asked : w ≡ meant x width) where
  pub asked_sizes : first (open_sizes x y w (length job) (length a) (length b) (length t) (length p)) ≡ 0
  asked_sizes =
      let F = open_fits x y width (length job) a b (length t) (length p) z in
      rw asked (ap first (sizes_meant x y width F.narrow (length job) (length a) (length b) (length t) (length p)) ∙ z)

  pub asked_open : open_face x y w job a b t p ≡ open_face x y width job a b t p
  asked_open = rw asked (open_meant x y width (open_fits x y width (length job) a b (length t) (length p) z).narrow job a b t p)

open_carried : (x y : Size) (width : ℕ) (job a b table product u v t p t' p' : List ℕ) (new : Job) (f n : ℕ)
    → first (open_sizes x y width (length job) (length a) (length b) (length table) (length product)) ≡ 0 → length table ≡ 8 * length t → length product ≡ 8 * length p → u ≡ words_in a → v ≡ words_in b → f ≡ n
    → (n, (new, (t', p'))) ≡ opening_means x y width u v t p
    → ◌≡◌ {A = ℕ × (List ℕ × (List ℕ × List ℕ))} (f, left f (job, (table, product)) (bytes_of (record_of new 0 false), (bytes_of t', bytes_of p'))) (open_face x y width job a b table product)
unfolding opening_means open_face
open_carried x y width job a b table product u v t p t' p' new f n z et ep eu ev e says =
    carried {S = Job × (List ℕ × List ℕ)} {R = List ℕ × (List ℕ × List ℕ)} open_bytes (opening_tests x y width (words_in a) (words_in b) (length t) (length p)) _ _ _ (new, (t', p')) (job, (table, product)) _ f n e (rw (eu, ev) at says)
    (open_same x y width (length job) a b (length table) (length product) z (length t) (length p) et ep) (λ _ m. ap open_bytes m)

module _ (x y : Size) (width : ℕ) (job a b table product u v t p t' p' : List ℕ) (z : first (open_sizes x y width (length job) (length a) (length b) (length table) (length product)) ≡ 0) (et : length table ≡ 8 * length t) (ep : length product ≡ 8 * length p) (eu : u ≡ words_in a) (ev : v ≡ words_in b) where
  pub open_done : (new : Job) → opened (Ok new) t' p' ≡ opening_means x y width u v t p → ◌≡◌ {A = ℕ × (List ℕ × (List ℕ × List ℕ))} (0, (bytes_of (record_of new 0 false), (bytes_of t', bytes_of p'))) (open_face x y width job a b table product)
  open_done new says =
      left_new 0 (job, (table, product)) _ _ refl refl
      ∙ open_carried x y width job a b table product u v t p t' p' new 0 0 z et ep eu ev refl says

  pub open_refused : (why : Reason) → opened (Err why) t' p' ≡ opening_means x y width u v t p → ◌≡◌ {A = ℕ × (List ℕ × (List ℕ × List ℕ))} (reason_word why, (job, (table, product))) (open_face x y width job a b table product)
  open_refused why says =
      left_old (reason_word why) (job, (table, product)) _ (some_reason why)
      ∙ open_carried x y width job a b table product u v t p t' p' no_job (reason_word why) (reason_word why) z et ep eu ev refl says

-- ---- turn

module _ (job : Job) (k : ℕ) (a b : List ℕ) (t p : ℕ) (z : first (turn_sizes job k (length a) (length b) t p) ≡ 0) where
  turn_none : None (turn_sizes job k (length a) (length b) t p)
  unfolding turn_sizes
  turn_none = first_none (turn_sizes job k (length a) (length b) t p) tt z

  turn_lengths : misfit_bytes (size_a job) (size_b job) job.width (length a) (length b) t p ≡ false
  unfolding turn_sizes
  turn_lengths = turn_none.1.1.1.1.0

  turn_a : above (size_a job) ≡ false
  unfolding turn_sizes
  turn_a = or_left (above (size_a job)) (above (size_b job)) turn_none.1.1.0

  turn_b : above (size_b job) ≡ false
  unfolding turn_sizes
  turn_b = or_right (above (size_a job)) (above (size_b job)) turn_none.1.1.0

  turn_width : job.width ≤ 8
  unfolding turn_sizes
  turn_width = ltb-false 8 job.width (or_right (eqb job.width 0) (ltb 8 job.width) turn_none.1.1.1.0)

  pub turn_record : k ≡ 56
  unfolding turn_sizes unfit_record
  turn_record = eqb-true k (8 * 7) (not-false (eqb k (8 * 7)) turn_none.0)

  turn_fit_a : unfit_bytes (size_a job) (length a) ≡ false
  turn_fit_a = fit_a (size_a job) (size_b job) job.width (length a) (length b) t p turn_lengths

  turn_fit_b : unfit_bytes (size_b job) (length b) ≡ false
  turn_fit_b = fit_b (size_a job) (size_b job) job.width (length a) (length b) t p turn_lengths

  turn_fit_table : unfit_bytes (table_size (size_b job) job.width) t ≡ false
  turn_fit_table = fit_table (size_a job) (size_b job) job.width (length a) (length b) t p turn_lengths

  turn_fit_product : unfit_bytes (product_size (size_a job) (size_b job)) p ≡ false
  turn_fit_product = fit_product (size_a job) (size_b job) job.width (length a) (length b) t p turn_lengths

  pub turn_room_a : Room 128 (length a)
  turn_room_a = room (size_a job) 64 (length a) (above_rows (size_a job) turn_a) (above_columns (size_a job) turn_a) turn_fit_a

  pub turn_room_b : Room 128 (length b)
  turn_room_b = room (size_b job) 64 (length b) (above_rows (size_b job) turn_b) (above_columns (size_b job) turn_b) turn_fit_b

  pub turn_room_table : Room 512 t
  turn_room_table = room (table_size (size_b job) job.width) 256 t (pow_small job.width turn_width) (above_columns (size_b job) turn_b) turn_fit_table

  pub turn_room_product : Room 128 p
  turn_room_product = room (product_size (size_a job) (size_b job)) 64 p (above_rows (size_a job) turn_a) (above_columns (size_b job) turn_b) turn_fit_product

-- the library's tests are those of the words, where no size, width or length is wrong
pub turn_same : (job : Job) (k : ℕ) (a b t p : List ℕ) → first (turn_sizes job k (length a) (length b) (length t) (length p)) ≡ 0
    → first (turn_tests job (words_in a) (words_in b) (words_in t) (words_in p)) ≡ first (turn_words job (words_in a) (words_in b) (words_in t) (words_in p))
unfolding turn_tests found_tests misfit turn_sizes
turn_same job k a b t p z =
    let h = turn_none job k a b (length t) (length p) z in
    past_none ((over (size_a job) || over (size_b job), 1) ∷ (eqb job.width 0 || ltb 8 job.width, 3) ∷ (misfit (size_a job) (size_b job) job.width (length (words_in a)) (length (words_in b)) (length (words_in t)) (length (words_in p)), 4) ∷ [])
    (turn_words job (words_in a) (words_in b) (words_in t) (words_in p))
    (h.1.0, (h.1.1.1.0, (rw (fits_in (size_a job) a (turn_fit_a job k a b (length t) (length p) z), fits_in (size_b job) b (turn_fit_b job k a b (length t) (length p) z), fits_in (table_size (size_b job) job.width) t (turn_fit_table job k a b (length t) (length p) z)) (fits_in (product_size (size_a job) (size_b job)) p (turn_fit_product job k a b (length t) (length p) z)), tt)))

pub turn_carried : (found : Job) (job a b table product u v t p t' p' : List ℕ) (budget : ℕ) (next : Job) (made : ℕ) (ended : Bool) (f n : ℕ) → found ≡ job_in (words_in job)
    → first (turn_sizes found (length job) (length a) (length b) (length table) (length product)) ≡ 0 → u ≡ words_in a → v ≡ words_in b → t ≡ words_in table → p ≡ words_in product → f ≡ n
    → (n, (next, (made, (ended, (t', p'))))) ≡ turn_means found u v t p budget
    → ◌≡◌ {A = ℕ × (List ℕ × (List ℕ × List ℕ))} (f, left f (job, (table, product)) (bytes_of (record_of next made ended), (bytes_of t', bytes_of p'))) (turn_face job a b table product budget)
unfolding turn_means turn_face turn_face_tests
turn_carried found job a b table product u v t p t' p' budget next made ended f n ej z eu ev et ep e says =
    let y : first (turn_sizes (job_in (words_in job)) (length job) (length a) (length b) (length table) (length product)) ≡ 0 = rw ej at z in
    carried {S = Job × (ℕ × (Bool × (List ℕ × List ℕ)))} {R = List ℕ × (List ℕ × List ℕ)} turn_bytes (turn_tests (job_in (words_in job)) (words_in a) (words_in b) (words_in table) (words_in product)) _ _ _ (next, (made, (ended, (t', p')))) (job, (table, product)) _ f n e (rw (ej, eu, ev, et, ep) at says)
    (turn_same (job_in (words_in job)) (length job) a b table product y ∙ sym (past_none (turn_sizes (job_in (words_in job)) (length job) (length a) (length b) (length table) (length product)) _ (turn_none (job_in (words_in job)) (length job) a b (length table) (length product) y))) (λ _ m. ap turn_bytes m)

module _ (found : Job) (job a b table product u v t p t' p' : List ℕ) (budget : ℕ) (ej : found ≡ job_in (words_in job)) (z : first (turn_sizes found (length job) (length a) (length b) (length table) (length product)) ≡ 0) (eu : u ≡ words_in a) (ev : v ≡ words_in b) (et : t ≡ words_in table) (ep : p ≡ words_in product) where
  pub turn_done : (next : Turned) → turned (Ok next) t' p' ≡ turn_means found u v t p budget
      → ◌≡◌ {A = ℕ × (List ℕ × (List ℕ × List ℕ))} (0, (bytes_of (record_of next.job next.made next.finished), (bytes_of t', bytes_of p'))) (turn_face job a b table product budget)
  turn_done next says =
      left_new 0 (job, (table, product)) _ _ refl refl
      ∙ turn_carried found job a b table product u v t p t' p' budget next.job next.made next.finished 0 0 ej z eu ev et ep refl says

  pub turn_refused : (why : Reason) → turned (Err why) t' p' ≡ turn_means found u v t p budget → ◌≡◌ {A = ℕ × (List ℕ × (List ℕ × List ℕ))} (reason_word why, (job, (table, product))) (turn_face job a b table product budget)
  turn_refused why says =
      left_old (reason_word why) (job, (table, product)) _ (some_reason why)
      ∙ turn_carried found job a b table product u v t p t' p' budget no_job 0 false (reason_word why) (reason_word why) ej z eu ev et ep refl says

-- a record of another length is not read
module _ (job a b table product : List ℕ) where
  pub turn_unread : (budget : ℕ) (r : Reason) → (reason_word r, no_job) ≡ answered ((unfit_record (length job), 4) ∷ []) no_job (job_in (words_in job))
      → ◌≡◌ {A = ℕ × (List ℕ × (List ℕ × List ℕ))} (reason_word r, (job, (table, product))) (turn_face job a b table product budget)
  unfolding turn_face turn_face_tests turn_sizes
  turn_unread budget r e =
      unasked_by ((unfit_record (length job), 4) ∷ []) _ _ _ r (ap (λ (o : ℕ × Job). o.0) e ∙ answered_first ((unfit_record (length job), 4) ∷ []) no_job _)

  pub turn_read : (found : Job) → (0, found) ≡ answered ((unfit_record (length job), 4) ∷ []) no_job (job_in (words_in job)) → (length job ≡ 56) × (found ≡ job_in (words_in job))
  unfolding unfit_record
  turn_read found e =
      let d = done_makes ((unfit_record (length job), 4) ∷ []) no_job (job_in (words_in job)) found e in
      (eqb-true (length job) (8 * 7) (not-false (eqb (length job) (8 * 7)) (first_none ((unfit_record (length job), 4) ∷ []) tt d.0).0), d.1)
