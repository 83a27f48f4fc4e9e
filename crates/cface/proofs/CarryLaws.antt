-- A request of the library on the words of bytes: its tests and those of the C face give the same number, and what is left is carried over.
-- Assumes nothing.
use mathlib.Core.Path.{◌≡◌, refl, sym, ap, ◌∙◌}
use mathlib.Core.Bool.{false, ◌||◌}
use mathlib.Core.List.{List, [], ◌∷◌, ◌++◌}
use Prim.Native.Nat.{ℕ, zero, suc, ◌*◌, ◌≤◌, ◌<◌}
use native.Mathlib.Omega.{arith}
use borrow.Author.Tests.{ltb-false}
use lib.Dec.{ltb}
use lib.ListN.{length}
use Rattle.cells.proofs.AnyLaws.{or_left, or_right}
use Rattle.requests.specs.declared.Size.{Size}
use Rattle.requests.specs.declared.Buffer.TheVariants.{First, Second}
use Rattle.requests.specs.declared.Reason.{Reason}
use Rattle.requests.specs.Answers.{reason_word, Tests, first, left, answered}
use Rattle.requests.specs.Sizes.{over, unfit}
use Rattle.requests.specs.Faults.{faults}
use Rattle.requests.specs.Single.{single_tests}
use Rattle.requests.specs.Pair.{unequal, unfits, pair_tests}
use Rattle.requests.specs.Exact.{None}
use Rattle.requests.proofs.AnswerLaws.{first_none, append_given, later, refused, done_makes}
use Rattle.requests.proofs.WordLaws.{some_reason}
use Rattle.matrix.specs.Check.{check_tests, check_means}
use Rattle.matrix.specs.Negation.{negation_means}
use Rattle.matrix.specs.Combination.{combination_of, combination_means}
use Rattle.wordbytes.specs.Bytes.{words_in, bytes_of}
use Rattle.cface.specs.Limit.{above, unfit_bytes}
use Rattle.cface.specs.Check.{check_sizes, check_face_tests, check_face}
use Rattle.cface.specs.Negation.{negation_sizes, negation_face_tests, negation_face}
use Rattle.cface.specs.Pair.{pair_sizes, pair_face_tests}
use Rattle.cface.specs.Combination.{combination_face}
use Rattle.cface.specs.Room.{Room}
use Rattle.cface.proofs.LimitLaws.{room, above_rows, above_columns, fits_words, fits_in, fits_a, fits_b, fits_out}

-- tests that do not hold are passed over
pub past_none : (ts us : Tests) → None ts → first (ts ++ us) ≡ first us
past_none [] us h = refl
past_none ((t, n) ∷ ts) us h = later t n (ts ++ us) h.0 ∙ past_none ts us h.1

pub answered_first : {S : Type 0} (ts : Tests) (old new : S) → (answered ts old new).0 ≡ first ts
unfolding answered
answered_first ts old new = refl

left_same : {R : Type 0} (k : ℕ) (old a b : R) → (k ≡ 0 → a ≡ b) → left k old a ≡ left k old b
unfolding left
left_same zero old a b h = h refl
left_same (suc k) old a b h = refl

pub left_old : {R : Type 0} (f : ℕ) (old new : R) → (f ≡ 0 → ⊥) → ◌≡◌ {A = ℕ × R} (f, old) (f, left f old new)
unfolding left
left_old zero old new ne = absurd (ne refl)
left_old (suc f) old new ne = refl

pub left_new : {R : Type 0} (f : ℕ) (old new r : R) → f ≡ 0 → r ≡ new → ◌≡◌ {A = ℕ × R} (0, r) (f, left f old new)
unfolding left
left_new f old new r z e = rw (z, e)

-- f is the number that the library gives on words, and g makes bytes of what it leaves
pub carried : {S R : Type 0} (g : S → R) (ts us : Tests) (before after w : S) (old new : R) (f n : ℕ) → f ≡ n → (n, w) ≡ answered ts before after → first ts ≡ first us
    → (n ≡ 0 → w ≡ after → g w ≡ new) → (f, left f old (g w)) ≡ answered us old new
unfolding answered
carried {S = S} {R = R} g ts us before after w old new f n e says same made =
    rw number_is (ap (λ (v : R). (first us, v)) (left_same (first us) old (g w) new (λ z. made (zero_is z) (done_makes ts before after w (rw (zero_is z) at says)).1)))
  where
    from : n ≡ first ts
    from = ap (λ (v : ℕ × S). v.0) says ∙ answered_first ts before after

    number_is : f ≡ first us
    number_is = e ∙ from ∙ same

    zero_is : first us ≡ 0 → n ≡ 0
    zero_is z = from ∙ same ∙ z

-- refused by a size or a length: the library is not asked
pub unasked : {R : Type 0} (ts us : Tests) (old new : R) (f : ℕ) → f ≡ first ts → (f ≡ 0 → ⊥) → (f, old) ≡ answered (ts ++ us) old new
unasked ts us old new f e ne = refused (ts ++ us) old new f ne (append_given ts us (λ z. ne (e ∙ z)) ∙ sym e)

-- .. by a reason
pub unasked_by : {R : Type 0} (ts us : Tests) (old new : R) (r : Reason) → reason_word r ≡ first ts → (reason_word r, old) ≡ answered (ts ++ us) old new
unasked_by ts us old new r e = unasked ts us old new (reason_word r) e (some_reason r)

pub refused_first : (ts us : Tests) (r : Reason) → reason_word r ≡ first ts → reason_word r ≡ first (ts ++ us)
refused_first ts us r e = e ∙ sym (append_given ts us (λ z. some_reason r (e ∙ z)))

-- ---- check

module _ (s : Size) (a : List ℕ) (z : first (check_sizes s (length a)) ≡ 0) where
  check_none : None (check_sizes s (length a))
  unfolding check_sizes
  check_none = first_none (check_sizes s (length a)) tt z

  pub check_room : Room 128 (length a)
  unfolding check_sizes
  check_room = room s 64 (length a) (above_rows s check_none.1.0) (above_columns s check_none.1.0) check_none.1.1.0

  pub check_same : check_means s (words_in a) ≡ check_face s a
  unfolding check_means check_tests check_face check_face_tests check_sizes
  check_same =
      past_none ((over s, 1) ∷ (unfit s (length (words_in a)), 4) ∷ []) (faults First s (words_in a)) (check_none.0, (fits_in s a check_none.1.1.0, tt))
      ∙ sym (past_none (check_sizes s (length a)) (faults First s (words_in a)) check_none)

-- ---- negation

module _ (s : Size) (a : List ℕ) (n : ℕ) (z : first (negation_sizes s (length a) n) ≡ 0) where
  negation_none : None (negation_sizes s (length a) n)
  unfolding negation_sizes
  negation_none = first_none (negation_sizes s (length a) n) tt z

  negation_a : unfit_bytes s (length a) ≡ false
  unfolding negation_sizes
  negation_a = or_left (unfit_bytes s (length a)) (unfit_bytes s n) negation_none.1.1.0

  negation_out : unfit_bytes s n ≡ false
  unfolding negation_sizes
  negation_out = or_right (unfit_bytes s (length a)) (unfit_bytes s n) negation_none.1.1.0

  pub negation_room_a : Room 128 (length a)
  unfolding negation_sizes
  negation_room_a = room s 64 (length a) (above_rows s negation_none.1.0) (above_columns s negation_none.1.0) negation_a

  pub negation_room_out : Room 128 n
  unfolding negation_sizes
  negation_room_out = room s 64 n (above_rows s negation_none.1.0) (above_columns s negation_none.1.0) negation_out

  pub negation_same : (k : ℕ) → n ≡ 8 * k → first (single_tests s s (words_in a) k) ≡ first (negation_face_tests s a n)
  unfolding single_tests negation_face_tests negation_sizes
  negation_same k e =
      past_none ((over s, 1) ∷ (unfit s (length (words_in a)) || unfit s k, 4) ∷ []) (faults First s (words_in a)) (negation_none.0, (rw (fits_in s a negation_a) (fits_words s n k negation_out e), tt))
      ∙ sym (past_none (negation_sizes s (length a) n) (faults First s (words_in a)) negation_none)

-- ---- combination

module _ (x y : Size) (d : ℕ) (a b : List ℕ) (n : ℕ) (z : first (pair_sizes x y d (length a) (length b) n) ≡ 0) where
  pair_none : None (pair_sizes x y d (length a) (length b) n)
  unfolding pair_sizes
  pair_none = first_none (pair_sizes x y d (length a) (length b) n) tt z

  pair_small : above x ≡ false
  unfolding pair_sizes
  pair_small = or_left (above x) (above y) pair_none.1.0

  pair_small_b : above y ≡ false
  unfolding pair_sizes
  pair_small_b = or_right (above x) (above y) pair_none.1.0

  pair_a : unfit_bytes x (length a) ≡ false
  unfolding pair_sizes
  pair_a = fits_a x y x (length a) (length b) n pair_none.1.1.1.0

  pair_b : unfit_bytes y (length b) ≡ false
  unfolding pair_sizes
  pair_b = fits_b x y x (length a) (length b) n pair_none.1.1.1.0

  pair_out : unfit_bytes x n ≡ false
  unfolding pair_sizes
  pair_out = fits_out x y x (length a) (length b) n pair_none.1.1.1.0

  pub pair_room_a : Room 128 (length a)
  pair_room_a = room x 64 (length a) (above_rows x pair_small) (above_columns x pair_small) pair_a

  pub pair_room_b : Room 128 (length b)
  pair_room_b = room y 64 (length b) (above_rows y pair_small_b) (above_columns y pair_small_b) pair_b

  pub pair_room_out : Room 128 n
  pair_room_out = room x 64 n (above_rows x pair_small) (above_columns x pair_small) pair_out

  pub pair_same : (k : ℕ) → n ≡ 8 * k → first (pair_tests x y d (words_in a) (words_in b) k) ≡ first (pair_face_tests x y d a b n)
  unfolding pair_tests unfits pair_face_tests pair_sizes
  pair_same k e =
      past_none ((over x || over y, 1) ∷ (unequal x y, 2) ∷ (unfit x (length (words_in a)) || (unfit y (length (words_in b)) || unfit x k), 4) ∷ (ltb 2 d, 8) ∷ []) (faults First x (words_in a) ++ faults Second y (words_in b))
      (pair_none.0, (pair_none.1.1.0, (rw (fits_in x a pair_a, fits_in y b pair_b) (fits_words x n k pair_out e), (pair_none.1.1.1.1.0, tt))))
      ∙ sym (past_none (pair_sizes x y d (length a) (length b) n) (faults First x (words_in a) ++ faults Second y (words_in b)) pair_none)

  pub pair_digit : d < 3
  unfolding pair_sizes
  pair_digit = let h : d ≤ 2 = ltb-false 2 d pair_none.1.1.1.1.0 in omega arith

pub negation_carried : (s : Size) (a out u w w' : List ℕ) (f n : ℕ) → first (negation_sizes s (length a) (length out)) ≡ 0 → length out ≡ 8 * length w → u ≡ words_in a → f ≡ n
    → (n, w') ≡ negation_means s u w → (f, left f out (bytes_of w')) ≡ negation_face s a out
unfolding negation_means negation_face
negation_carried s a out u w w' f n z room eu e says =
    carried bytes_of (single_tests s s (words_in a) (length w)) _ w _ w' out _ f n e (rw eu at says) (negation_same s a (length out) z (length w) room) (λ _ m. ap bytes_of m)

-- the library refuses, and then it is done
module _ (s : Size) (a out u w w' : List ℕ) (z : first (negation_sizes s (length a) (length out)) ≡ 0) (room : length out ≡ 8 * length w) (eu : u ≡ words_in a) where
  pub negation_refused : (r : Reason) → (reason_word r, w') ≡ negation_means s u w → (reason_word r, out) ≡ negation_face s a out
  negation_refused r says = left_old _ _ _ (some_reason r) ∙ negation_carried s a out u w w' _ _ z room eu refl says

  pub negation_done : (new : List ℕ) → new ≡ bytes_of w' → (0, w') ≡ negation_means s u w → (0, new) ≡ negation_face s a out
  negation_done new made says = left_new 0 out _ new refl made ∙ negation_carried s a out u w w' 0 0 z room eu refl says

pub combination_carried : (x y : Size) (d : ℕ) (a b out u v w w' : List ℕ) (f n : ℕ) → first (pair_sizes x y d (length a) (length b) (length out)) ≡ 0 → length out ≡ 8 * length w
    → u ≡ words_in a → v ≡ words_in b → f ≡ n → (n, w') ≡ combination_means x y d u v w → (f, left f out (bytes_of w')) ≡ combination_face x y d a b out
unfolding combination_means combination_face
combination_carried x y d a b out u v w w' f n z room eu ev e says =
    carried bytes_of (pair_tests x y d (words_in a) (words_in b) (length w)) _ w (combination_of d x.rows x.columns (words_in a) (words_in b)) w' out _ f n e (rw (eu, ev) at says)
    (pair_same x y d a b (length out) z (length w) room) (λ _ m. ap bytes_of m)

module _ (x y : Size) (d : ℕ) (a b out u v w w' : List ℕ) (z : first (pair_sizes x y d (length a) (length b) (length out)) ≡ 0) (room : length out ≡ 8 * length w) (eu : u ≡ words_in a) (ev : v ≡ words_in b) where
  pub combination_refused : (r : Reason) → (reason_word r, w') ≡ combination_means x y d u v w → (reason_word r, out) ≡ combination_face x y d a b out
  combination_refused r says = left_old _ _ _ (some_reason r) ∙ combination_carried x y d a b out u v w w' _ _ z room eu ev refl says

  pub combination_done : (new : List ℕ) → new ≡ bytes_of w' → (0, w') ≡ combination_means x y d u v w → (0, new) ≡ combination_face x y d a b out
  combination_done new made says = left_new 0 out _ new refl made ∙ combination_carried x y d a b out u v w w' 0 0 z room eu ev refl says
