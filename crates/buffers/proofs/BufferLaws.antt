-- The buffer that holds a matrix: it is legal, it holds the matrix, and it is the only one. Assumes nothing.
use mathlib.Core.Path.{◌≡◌, refl, sym, ap, subst, ◌∙◌}
use mathlib.Core.Logic.{⊎_elim}
use mathlib.Core.Bool.{false}
use mathlib.Core.List.{List, ◌++◌}
use Prim.Native.Nat.{ℕ, zero, suc, ◌+◌, ◌-◌, ◌*◌, ◌/◌, ◌%◌, ◌^◌, ◌≤◌, ◌<◌, min}
use native.Mathlib.Nat.{zero-mul, mul-zero, suc-mul, mod-lt, div-add-mod', div-lt_iff_lt-mul, eq-zero-or-pos}
use native.Mathlib.Decide.{dec_lt}
use native.Mathlib.Omega.{arith}
use lib.Pow.{pow_mono}
use lib.Dec.{ltb}
use borrow.Author.Tests.{ltb-false, le-ltb}
use Rattle.cells.specs.Any.{any}
use Rattle.cells.proofs.AnyLaws.{any_none, any_at}
use lib.ListN.{length, get_or, length-append, get_or-append, get_or-eq_default}
use lib.Seq.{get_or-append-add, ext_get_or}
use Rattle.cells.specs.Bit.{bit, word_of}
use Rattle.cells.proofs.WordLaws.{word_of_lt, word_of_bit, bit_high, ext}
use Rattle.cells.specs.Pair.{digit, LegalPair, WordPair}
use Rattle.cells.proofs.PairLaws.{holds_self, legal_none, digit_none}
use Rattle.cells.specs.Digit.{Matrix, unit_of, sign_of}
use Rattle.cells.proofs.EncodeLaws.{unit_lt, sign_lt, unit_bit, sign_bit}
use Rattle.buffers.specs.Buffer.{planes, wide, words, bit_at, unit, sign, cell, Legal, Words, tab, joined, plane, encode}
use Rattle.buffers.specs.Shows.{Shows}
use Rattle.buffers.specs.Fault.{stray, padded}
use Rattle.buffers.proofs.SizeLaws.{planes_room, wide_is, bit_at_word}

-- ---- lists

pub length_tab : (n : ℕ) (f : ℕ → ℕ) → length (tab n f) ≡ n
unfolding tab
length_tab zero f = refl
length_tab (suc n) f = ap suc (length_tab n (λ i. f (suc i)))

pub get_d_tab : (n : ℕ) (f : ℕ → ℕ) (t : ℕ) → t < n → get_or (tab n f) t 0 ≡ f t
unfolding tab
get_d_tab zero f t h = absurd (omega arith)
get_d_tab (suc n) f zero h = refl
get_d_tab (suc n) f (suc t) h = get_d_tab n (λ i. f (suc i)) t (omega arith)

pub length_joined : (n w : ℕ) (f : ℕ → List ℕ) → ((i : ℕ) → length (f i) ≡ w) → length (joined n f) ≡ n * w
unfolding joined
length_joined zero w f h = sym (zero-mul w)
length_joined (suc n) w f h =
    length-append (f 0) (joined n (λ i. f (suc i))) ∙ omega (arith, h 0, length_joined n w (λ i. f (suc i)) (λ i. h (suc i)), suc-mul n w)

pub get_d_joined : (n w : ℕ) (f : ℕ → List ℕ) → ((i : ℕ) → length (f i) ≡ w) → (i k : ℕ) → i < n → k < w → get_or (joined n f) (i * w + k) 0 ≡ get_or (f i) k 0
unfolding joined
get_d_joined zero w f h i k l m = absurd (omega arith)
get_d_joined (suc n) w f h zero k l m =
    let e : 0 * w + k ≡ k = omega (arith, zero-mul w) in
    rw e (get_or-append (f 0) (joined n (λ i. f (suc i))) 0 k (omega (arith, h 0)))
get_d_joined (suc n) w f h (suc i) k l m =
    let e : suc i * w + k ≡ length (f 0) + (i * w + k) = omega (arith, suc-mul i w, h 0) in
    rw e (get_or-append-add (f 0) (joined n (λ i. f (suc i))) (i * w + k) 0 ∙ get_d_joined n w (λ i. f (suc i)) (λ i. h (suc i)) i k (omega arith) m)

-- what holds of place k of each row i holds of each place
pub by_row : (P : ℕ → Type 0) (r w : ℕ) → ((i k : ℕ) → i < r → k < w → P (i * w + k)) → (n : ℕ) → n < r * w → P n
by_row P r w h n l =
    ⊎_elim (λ z. absurd (let e : r * w ≡ 0 = ap (λ (x : ℕ). r * x) z ∙ mul-zero r in omega arith))
    (λ p. subst P (div-add-mod' n w) (h (n / w) (n % w) ((div-lt_iff_lt-mul p).1 l) (mod-lt n p))) (eq-zero-or-pos w)

-- ---- the words of an encoding

module _ (c : ℕ) (f : ℕ → ℕ) (small : (j : ℕ) → f j < 2) where
  -- the word of the columns from 64 p on
  abbrev made : ℕ → ℕ
  made p = word_of (λ t. f (64 * p + t)) (min 64 (c - 64 * p))

  made_lt : (p : ℕ) → made p < 2 ^ 64
  made_lt p =
      let m : min 64 (c - 64 * p) ≤ 64 = omega arith in
      omega (arith, word_of_lt (λ t. f (64 * p + t)) (min 64 (c - 64 * p)) (λ t. small (64 * p + t)), pow_mono m)

  made_in : (p t : ℕ) → t < 64 → 64 * p + t < c → bit (made p) t ≡ f (64 * p + t)
  made_in p t l h = word_of_bit (λ t. f (64 * p + t)) (min 64 (c - 64 * p)) t (λ t. small (64 * p + t)) (omega arith)

  made_out : (p t : ℕ) → c ≤ 64 * p + t → bit (made p) t ≡ 0
  made_out p t h = go (dec_lt t 64)
    where
      go : Dec (t < 64) → bit (made p) t ≡ 0
      go (yes l) = bit_high (min 64 (c - 64 * p)) (made p) t (word_of_lt (λ t. f (64 * p + t)) (min 64 (c - 64 * p)) (λ t. small (64 * p + t))) (omega arith)
      go (no l) = bit_high 64 (made p) t (made_lt p) (omega arith)

  -- a word with those bits is that word
  made_is : (p w : ℕ) → w < 2 ^ 64 → ((t : ℕ) → t < 64 → 64 * p + t < c → bit w t ≡ f (64 * p + t)) → ((t : ℕ) → t < 64 → c ≤ 64 * p + t → bit w t ≡ 0) → w ≡ made p
  made_is p w l h k = ext 64 w (made p) l (made_lt p) (λ t m. go t m (dec_lt (64 * p + t) c))
    where
      go : (t : ℕ) → t < 64 → Dec (64 * p + t < c) → bit w t ≡ bit (made p) t
      go t m (yes i) = h t m i ∙ sym (made_in p t m i)
      go t m (no o) = k t m (omega arith) ∙ sym (made_out p t (omega arith))

length_row : (c : ℕ) (f g : ℕ → ℕ) → length (plane c f ++ plane c g) ≡ wide c
unfolding plane
length_row c f g =
    length-append (plane c f) (plane c g)
    ∙ omega (arith, wide_is c, length_tab (planes c) (λ p. word_of (λ t. f (64 * p + t)) (min 64 (c - 64 * p))), length_tab (planes c) (λ p. word_of (λ t. g (64 * p + t)) (min 64 (c - 64 * p))))

row_unit : (c : ℕ) (f g : ℕ → ℕ) (p : ℕ) → p < planes c → get_or (plane c f ++ plane c g) p 0 ≡ word_of (λ t. f (64 * p + t)) (min 64 (c - 64 * p))
unfolding plane
row_unit c f g p l =
    let F : ℕ → ℕ = λ p. word_of (λ t. f (64 * p + t)) (min 64 (c - 64 * p)) in
    get_or-append (tab (planes c) F) (plane c g) 0 p (omega (arith, length_tab (planes c) F)) ∙ get_d_tab (planes c) F p l

row_sign : (c : ℕ) (f g : ℕ → ℕ) (p : ℕ) → p < planes c → get_or (plane c f ++ plane c g) (planes c + p) 0 ≡ word_of (λ t. g (64 * p + t)) (min 64 (c - 64 * p))
unfolding plane
row_sign c f g p l =
    let F : ℕ → ℕ = λ p. word_of (λ t. f (64 * p + t)) (min 64 (c - 64 * p)) in
    let G : ℕ → ℕ = λ p. word_of (λ t. g (64 * p + t)) (min 64 (c - 64 * p)) in
    subst (λ (m : ℕ). get_or (tab (planes c) F ++ tab (planes c) G) (m + p) 0 ≡ G p) (length_tab (planes c) F) (get_or-append-add (tab (planes c) F) (tab (planes c) G) p 0 ∙ get_d_tab (planes c) G p l)

module _ (r c : ℕ) (M : Matrix) where
  pub encode_length : length (encode r c M) ≡ words r c
  unfolding encode words
  encode_length = length_joined r (wide c) _ (λ i. length_row c (λ j. unit_of (M i j)) (λ j. sign_of (M i j)))

  unit_word : (i p : ℕ) → i < r → p < planes c → get_or (encode r c M) (i * wide c + p) 0 ≡ made c (λ j. unit_of (M i j)) (λ j. unit_lt (M i j)) p
  unfolding encode
  unit_word i p h l =
      get_d_joined r (wide c) (λ i. plane c (λ j. unit_of (M i j)) ++ plane c (λ j. sign_of (M i j))) (λ i. length_row c (λ j. unit_of (M i j)) (λ j. sign_of (M i j))) i p h (omega (arith, wide_is c))
      ∙ row_unit c (λ j. unit_of (M i j)) (λ j. sign_of (M i j)) p l

  sign_word : (i p : ℕ) → i < r → p < planes c → get_or (encode r c M) (i * wide c + planes c + p) 0 ≡ made c (λ j. sign_of (M i j)) (λ j. sign_lt (M i j)) p
  unfolding encode
  sign_word i p h l =
      let e : i * wide c + planes c + p ≡ i * wide c + (planes c + p) = omega arith in
      rw e
      (get_d_joined r (wide c) (λ i. plane c (λ j. unit_of (M i j)) ++ plane c (λ j. sign_of (M i j))) (λ i. length_row c (λ j. unit_of (M i j)) (λ j. sign_of (M i j))) i (planes c + p) h (omega (arith, wide_is c))
      ∙ row_sign c (λ j. unit_of (M i j)) (λ j. sign_of (M i j)) p l)

-- a plane whose word of column j is the word made of f holds f j at a real column, and nothing at the others
bit_made : (ws : List ℕ) (x c : ℕ) (f : ℕ → ℕ) (small : (j : ℕ) → f j < 2) (j : ℕ) → get_or ws (x + j / 64) 0 ≡ made c f small (j / 64)
    → (j < c → bit_at ws x j ≡ f j) × (c ≤ j → bit_at ws x j ≡ 0)
unfolding bit_at
bit_made ws x c f small j w =
    let e : 64 * (j / 64) + j % 64 ≡ j = omega arith in (
      λ l. ap (λ (v : ℕ). bit v (j % 64)) w ∙ made_in c f small (j / 64) (j % 64) (omega arith) (omega arith) ∙ ap f e,
      λ l. ap (λ (v : ℕ). bit v (j % 64)) w ∙ made_out c f small (j / 64) (j % 64) (omega arith),
    )

-- what holds of each unit word and of each sign word holds of each word
by_word : (P : ℕ → Type 0) (r c : ℕ) → ((i p : ℕ) → i < r → p < planes c → P (i * wide c + p)) → ((i p : ℕ) → i < r → p < planes c → P (i * wide c + planes c + p))
    → (n : ℕ) → n < words r c → P n
unfolding words
by_word P r c u s n l = by_row P r (wide c) (λ i k h m. go i k h m (dec_lt k (planes c))) n l
  where
    go : (i k : ℕ) → i < r → k < wide c → Dec (k < planes c) → P (i * wide c + k)
    go i k h m (yes a) = u i k h a
    go i k h m (no a) =
        let e : i * wide c + planes c + (k - planes c) ≡ i * wide c + k = omega arith in
        subst P e (s i (k - planes c) h (omega (arith, wide_is c)))

module _ (r c : ℕ) (M : Matrix) where
  unit_of_lem : (i j : ℕ) → i < r → j < 64 * planes c → (j < c → unit c (encode r c M) i j ≡ unit_of (M i j)) × (c ≤ j → unit c (encode r c M) i j ≡ 0)
  unfolding unit
  unit_of_lem i j h l = bit_made (encode r c M) (i * wide c) c (λ j. unit_of (M i j)) (λ j. unit_lt (M i j)) j (unit_word r c M i (j / 64) h (omega arith))

  sign_of_lem : (i j : ℕ) → i < r → j < 64 * planes c → (j < c → sign c (encode r c M) i j ≡ sign_of (M i j)) × (c ≤ j → sign c (encode r c M) i j ≡ 0)
  unfolding sign
  sign_of_lem i j h l = bit_made (encode r c M) (i * wide c + planes c) c (λ j. sign_of (M i j)) (λ j. sign_lt (M i j)) j (sign_word r c M i (j / 64) h (omega arith))

  -- an encoding holds the matrix
  pub cell_encode : (i j : ℕ) → i < r → j < c → M i j < 3 → cell c (encode r c M) i j ≡ M i j
  unfolding cell unit_of sign_of
  cell_encode i j h l d =
      let in-planes : j < 64 * planes c = omega (arith, planes_room c) in
      omega (arith, (unit_of_lem i j h in-planes).0 l, (sign_of_lem i j h in-planes).0 l)

  pub encode_legal : Legal r c (encode r c M)
  unfolding cell unit_of sign_of
  encode_legal = record {
    long = encode_length r c M;
    sound = λ i j h l.
        let in-planes : j < 64 * planes c = omega (arith, planes_room c) in
        omega (arith, (unit_of_lem i j h in-planes).0 l, (sign_of_lem i j h in-planes).0 l);
    clear = λ i j h l m. omega (arith, (unit_of_lem i j h m).1 l, (sign_of_lem i j h m).1 l);
  }

  pub encode_words : Words (encode r c M)
  encode_words n = go (dec_lt n (words r c))
    where
      go : Dec (n < words r c) → get_or (encode r c M) n 0 < 2 ^ 64
      go (yes l) =
          by_word (λ n. get_or (encode r c M) n 0 < 2 ^ 64) r c
          (λ i p h m. rw (unit_word r c M i p h m) (made_lt c (λ j. unit_of (M i j)) (λ j. unit_lt (M i j)) p))
          (λ i p h m. rw (sign_word r c M i p h m) (made_lt c (λ j. sign_of (M i j)) (λ j. sign_lt (M i j)) p)) n l
      go (no l) = rw (get_or-eq_default (encode r c M) 0 {n = n} (omega (arith, encode_length r c M))) (omega arith)

  -- words that hold the digits f, row by row and word by word, are the encoding of M, where f is M at real columns and 0 at the others
  pub shown : (ws : List ℕ) (f : ℕ → ℕ → ℕ → ℕ) → length ws ≡ words r c
      → ((i p : ℕ) → i < r → p < planes c → WordPair (f i p) (get_or ws (i * wide c + p) 0) (get_or ws (i * wide c + planes c + p) 0))
      → ((i p t : ℕ) → i < r → p < planes c → t < 64 → 64 * p + t < c → f i p t ≡ M i (64 * p + t))
      → ((i p t : ℕ) → i < r → p < planes c → t < 64 → c ≤ 64 * p + t → f i p t ≡ 0)
      → ws ≡ encode r c M
  unfolding unit_of sign_of
  shown ws f long pairs real pad =
      ext_get_or 0 ws (encode r c M) (long ∙ sym (encode_length r c M))
      (λ n l.
      by_word (λ n. get_or ws n 0 ≡ get_or (encode r c M) n 0) r c
      (λ i p h m.
      made_is c (λ j. unit_of (M i j)) (λ j. unit_lt (M i j)) p (get_or ws (i * wide c + p) 0) (pairs i p h m).unit_fits
      (λ t k a. unit_bit (f i p) _ _ (pairs i p h m).holds t ∙ ap unit_of (real i p t h m k a))
      (λ t k a. unit_bit (f i p) _ _ (pairs i p h m).holds t ∙ ap unit_of (pad i p t h m k a))
      ∙ sym (unit_word r c M i p h m))
      (λ i p h m.
      made_is c (λ j. sign_of (M i j)) (λ j. sign_lt (M i j)) p (get_or ws (i * wide c + planes c + p) 0) (pairs i p h m).sign_fits
      (λ t k a. sign_bit (f i p) _ _ (pairs i p h m).holds t ∙ ap sign_of (real i p t h m k a))
      (λ t k a. sign_bit (f i p) _ _ (pairs i p h m).holds t ∙ ap sign_of (pad i p t h m k a))
      ∙ sym (sign_word r c M i p h m))
      n (omega arith))

-- the digit of a column, by its word and its place in it
pub cell_word : (c : ℕ) (ws : List ℕ) (i p t : ℕ) → t < 64 → cell c ws i (64 * p + t) ≡ digit (get_or ws (i * wide c + p) 0) (get_or ws (i * wide c + planes c + p) 0) t
unfolding cell unit sign digit
cell_word c ws i p t l = rw (bit_at_word ws (i * wide c) p t l, bit_at_word ws (i * wide c + planes c) p t l)

module _ (r c : ℕ) (ws : List ℕ) (L : Legal r c ws) (fits : Words ws) where
  -- each pair of words of a legal buffer is legal at all places
  pub word_legal : (i p : ℕ) → i < r → p < planes c → LegalPair (get_or ws (i * wide c + p) 0) (get_or ws (i * wide c + planes c + p) 0)
  unfolding LegalPair cell unit sign
  word_legal i p h m t = go (dec_lt t 64) (dec_lt (64 * p + t) c)
    where
      go : Dec (t < 64) → Dec (64 * p + t < c) → bit (get_or ws (i * wide c + planes c + p) 0) t ≤ bit (get_or ws (i * wide c + p) 0) t
      go (no l) a = rw (bit_high 64 (get_or ws (i * wide c + planes c + p) 0) t (fits (i * wide c + planes c + p)) (omega arith)) (omega arith)
      go (yes l) (yes a) = rw (bit_at_word ws (i * wide c) p t l, bit_at_word ws (i * wide c + planes c) p t l) at (L.sound i (64 * p + t) h a)
      go (yes l) (no a) =
          let z = rw (bit_at_word ws (i * wide c) p t l, bit_at_word ws (i * wide c + planes c) p t l) at (L.clear i (64 * p + t) h (omega arith) (omega arith)) in
          omega arith

  -- a legal buffer is the encoding of what it holds
  pub encode_cell : encode r c (cell c ws) ≡ ws
  encode_cell =
      sym
      (shown r c (cell c ws) ws (λ i p. digit (get_or ws (i * wide c + p) 0) (get_or ws (i * wide c + planes c + p) 0)) L.long
      (λ i p h m. record { holds = holds_self _ _ (word_legal i p h m); unit_fits = fits (i * wide c + p); sign_fits = fits (i * wide c + planes c + p) })
      (λ i p t h m k a. sym (cell_word c ws i p t k))
      (λ i p t h m k a. sym (cell_word c ws i p t k) ∙ L.clear i (64 * p + t) h a (omega arith)))

-- an encoding depends on the matrix within its sizes alone
pub encode_within : (r c : ℕ) (M N : Matrix) → ((i j : ℕ) → i < r → j < c → M i j ≡ N i j) → encode r c M ≡ encode r c N
encode_within r c M N same =
    ext_get_or 0 (encode r c M) (encode r c N) (encode_length r c M ∙ sym (encode_length r c N))
    (λ n l.
    by_word (λ n. get_or (encode r c M) n 0 ≡ get_or (encode r c N) n 0) r c
    (λ i p h m.
    let f : ℕ → ℕ = λ j. unit_of (M i j) in
    let small : (j : ℕ) → f j < 2 = λ j. unit_lt (M i j) in
    unit_word r c M i p h m
    ∙ made_is c (λ j. unit_of (N i j)) (λ j. unit_lt (N i j)) p (made c f small p) (made_lt c f small p)
    (λ t k a. made_in c f small p t k a ∙ ap unit_of (same i (64 * p + t) h a)) (λ t k a. made_out c f small p t a)
    ∙ sym (unit_word r c N i p h m))
    (λ i p h m.
    let f : ℕ → ℕ = λ j. sign_of (M i j) in
    let small : (j : ℕ) → f j < 2 = λ j. sign_lt (M i j) in
    sign_word r c M i p h m
    ∙ made_is c (λ j. sign_of (N i j)) (λ j. sign_lt (N i j)) p (made c f small p) (made_lt c f small p)
    (λ t k a. made_in c f small p t k a ∙ ap sign_of (same i (64 * p + t) h a)) (λ t k a. made_out c f small p t a)
    ∙ sym (sign_word r c N i p h m))
    n (omega (arith, encode_length r c M)))

-- two legal buffers that hold the same digits are one
pub legal_same : (r c : ℕ) (ws vs : List ℕ) → Legal r c ws → Words ws → Legal r c vs → Words vs → ((i j : ℕ) → i < r → j < c → cell c ws i j ≡ cell c vs i j) → ws ≡ vs
legal_same r c ws vs L fits K fits' h =
    sym (encode_cell r c ws L fits) ∙ encode_within r c (cell c ws) (cell c vs) h ∙ encode_cell r c vs K fits'

-- ---- the tests decide what is legal

module _ (r c : ℕ) (ws : List ℕ) where
  pub legal_tests : length ws ≡ words r c → stray r c ws ≡ false → padded r c ws ≡ false → Legal r c ws
  unfolding stray padded
  legal_tests long s p = record {
    long = long;
    sound = λ i j h l. ltb-false _ _ (any_at (λ j. ltb (unit c ws i j) (sign c ws i j)) c (any_at (λ i. any c (λ j. ltb (unit c ws i j) (sign c ws i j))) r s i h) j l);
    clear = λ i j h l m.
        let e : c + (j - c) ≡ j = omega arith in
        let z = rw e at (ltb-false 0 (cell c ws i (c + (j - c))) (any_at (λ j. ltb 0 (cell c ws i (c + j))) (64 * planes c - c) (any_at (λ i. any (64 * planes c - c) (λ j. ltb 0 (cell c ws i (c + j)))) r p i h) (j - c) (omega arith))) in
        omega arith;
  }

  pub tests_legal : Legal r c ws → (stray r c ws ≡ false) × (padded r c ws ≡ false)
  unfolding stray padded
  tests_legal L = (
    any_none (λ i. any c (λ j. ltb (unit c ws i j) (sign c ws i j))) r (λ i h. any_none (λ j. ltb (unit c ws i j) (sign c ws i j)) c (λ j l. le-ltb _ _ (L.sound i j h l))),
    any_none (λ i. any (64 * planes c - c) (λ j. ltb 0 (cell c ws i (c + j)))) r (λ i h. any_none (λ j. ltb 0 (cell c ws i (c + j))) (64 * planes c - c) (λ j l. le-ltb 0 (cell c ws i (c + j)) (omega (arith, L.clear i (c + j) h (omega arith) (omega arith))))),
  )

-- words that are all 0 hold zeros
pub zeros_encode : (r c : ℕ) (ws : List ℕ) → length ws ≡ words r c → ((n : ℕ) → get_or ws n 0 ≡ 0) → ws ≡ encode r c (λ i j. 0)
zeros_encode r c ws long z =
    shown r c (λ i j. 0) ws (λ i p t. 0) long
    (λ i p h m. rw (z (i * wide c + p), z (i * wide c + planes c + p)) (record { holds = record { legal = legal_none; digits = digit_none }; unit_fits = omega arith; sign_fits = omega arith }))
    (λ i p t h m k l. refl) (λ i p t h m k l. refl)

-- an encoding of digits shows them
pub encode_shows : (r c : ℕ) (M : Matrix) → ((i j : ℕ) → i < r → j < c → M i j < 3) → Shows r c M (encode r c M)
encode_shows r c M d =
    let holds : (i j : ℕ) → i < r → j < c → cell c (encode r c M) i j ≡ M i j = λ i j h l. cell_encode r c M i j h l (d i j h l) in
    record {
      legal = encode_legal r c M;
      digits = holds;
      only = λ vs L fits same. legal_same r c vs (encode r c M) L fits (encode_legal r c M) (encode_words r c M) (λ i j h l. same i j h l ∙ sym (holds i j h l));
    }
