-- The tests of `unpack`, and the bytes that it writes. Assumes nothing.
use mathlib.Core.Path.{◌≡◌, sym, ap, ◌∙◌}
use mathlib.Core.List.{List}
use Prim.Native.Nat.{ℕ, ◌+◌, ◌-◌, ◌*◌, ◌/◌, ◌^◌, ◌≤◌, ◌<◌, min}
use native.Mathlib.Decide.{dec_lt}
use native.Mathlib.Omega.{arith}
use lib.ListN.{length, get_or, set, get_or-eq_default}
use Rattle.std.proofs.lemmas.List.{get_or-set_same, get_or-set_other}
use borrow.Rule.Slice.PartMut.{put_mid}
use lib.Pow.{shr-shr}
use lib.Seq.{ext_get_or}
use Rattle.cells.specs.Pair.{digit}
use Rattle.cells.proofs.AnyLaws.{or_left, or_right}
use Rattle.cells.specs.Digit.{Matrix}
use Rattle.buffers.specs.Buffer.{planes, cell, Legal, tab, joined}
use Rattle.buffers.proofs.BufferLaws.{legal_tests, tests_legal, length_tab, get_d_tab, length_joined, get_d_joined, by_row}
use Rattle.buffers.proofs.SizeLaws.{planes_tight}
use Rattle.requests.specs.declared.Size.{Size}
use Rattle.requests.specs.Answers.{first}
use Rattle.requests.specs.Sizes.{unfit}
use Rattle.requests.specs.Faults.{faults}
use Rattle.requests.proofs.SizeLaws.{over_rows, over_columns, not_over, unfit_long, not_unfit}
use Rattle.requests.specs.Exact.{None}
use Rattle.requests.specs.declared.Buffer.TheVariants.{First}
use Rattle.requests.proofs.PairLaws.{faults_positive}
use Rattle.requests.proofs.AnswerLaws.{first_none}
use Rattle.rows.specs.Row.{column}
use Rattle.rows.proofs.TallyLaws.{column_word}
use Rattle.rows.proofs.MatrixLaws.{column_cell}
use Rattle.matrix.specs.Unpacked.{bytes, unlike}
use Rattle.matrix.specs.Unpack.{unpack_tests}
use Rattle.matrix.proofs.PutLaws.{put_long, put_before, put_within}
use Rattle.matrix.proofs.PackLaws.{cells_in, unlike_long, not_unlike}

-- what no test's holding says
pub record Ready (s : Size) (a : List ℕ) (n : ℕ) : Type 0 where
  pub rows : s.rows ≤ 1024
  pub columns : s.columns ≤ 1024
  pub legal : Legal s.rows s.columns a
  pub room : n ≡ s.rows * s.columns

pub ready : (s : Size) (a : List ℕ) (n : ℕ) → first (unpack_tests s a n) ≡ 0 → Ready s a n
unfolding unpack_tests faults
ready s a n z =
    let t : None (unpack_tests s a n) = first_none (unpack_tests s a n) (faults_positive First s a) z in
    record {
      rows = over_rows s t.0;
      columns = over_columns s t.0;
      legal = legal_tests _ _ a (unfit_long s (length a) (or_left (unfit s (length a)) (unlike s n) t.1.0)) t.1.1.0 t.1.1.1.0;
      room = unlike_long s n (or_right (unfit s (length a)) (unlike s n) t.1.0);
    }

pub ready_none : (s : Size) (a : List ℕ) (n : ℕ) → Ready s a n → None (unpack_tests s a n)
unfolding unpack_tests faults
ready_none s a n R =
    let t = tests_legal s.rows s.columns a R.legal in
    (not_over s R.rows R.columns, (rw (not_unfit s (length a) R.legal.long) (not_unlike s n R.room), (t.0, (t.1, tt))))

-- a word that is halved place by place
pub halved : (w v t : ℕ) → w ≡ v / 2 ^ t → w / 2 ≡ v / 2 ^ (t + 1)
halved w v t e = ap (λ (n : ℕ). n / 2) e ∙ shr-shr v t 1

-- ---- a row, word by word

-- one digit more
pub digits_next : (f : ℕ → ℕ) (ds : List ℕ) (i v : ℕ) → i < length ds → v ≡ f i → ((t : ℕ) → t < i → get_or ds t 0 ≡ f t) → (t : ℕ) → t < i + 1 → get_or (set ds i v) t 0 ≡ f t
digits_next f ds i v room e D t h = go (dec_lt t i)
  where
    go : Dec (t < i) → get_or (set ds i v) t 0 ≡ f t
    go (yes l) = get_or-set_other ds i t v 0 (λ d. omega arith) ∙ D t l
    go (no l) =
        let d : t ≡ i = omega arith in
        rw d (get_or-set_same ds i v 0 room ∙ e)

module _ (a : List ℕ) (x q c : ℕ) (e : q ≡ planes c) where
  -- the digits of a word more, which are written from place 64 p on
  pub row_more : (p n k u s : ℕ) (row digits : List ℕ) → p < q → n ≡ min 64 (c - 64 * p) → k ≡ n → length row ≡ c → length digits ≡ k → u ≡ get_or a (x + p) 0 → s ≡ get_or a (x + p + q) 0
      → ((j : ℕ) → j < min c (64 * p) → get_or row j 0 ≡ column a x q j) → ((t : ℕ) → t < length digits → get_or digits t 0 ≡ digit u s t)
      → (j : ℕ) → j < min c (64 * (p + 1)) → get_or (put_mid (64 * p) k row digits) j 0 ≡ column a x q j
  row_more p n k u s row digits l en ek long room eu es R D j h = go (dec_lt j (64 * p))
    where
      fits : 64 * p + k ≤ length row
      fits = omega (arith, planes_tight c)

      go : Dec (j < 64 * p) → get_or (put_mid (64 * p) k row digits) j 0 ≡ column a x q j
      go (yes b) = put_before (64 * p) k row digits fits room j b ∙ R j (omega arith)
      go (no b) =
          let d : 64 * p + (j - 64 * p) ≡ j = omega arith in
          let m : j - 64 * p < k = omega arith in
          ap (λ (i : ℕ). get_or (put_mid (64 * p) k row digits) i 0) (sym d) ∙ put_within (64 * p) k row digits fits room (j - 64 * p) m ∙ D (j - 64 * p) (omega arith)
          ∙ sym (column_word a x q p (j - 64 * p) (omega arith) ∙ rw (← eu, ← es)) ∙ ap (column a x q) d

-- ---- rows

-- the first n rows of bytes are those of M
pub record BytesMade (M : Matrix) (c n long : ℕ) (new : List ℕ) : Type 0 where
  pub len : length new ≡ long
  pub made : (i j : ℕ) → i < n → j < c → get_or new (i * c + j) 0 ≡ M i j

pub bytes_more : (c q i k n : ℕ) (a mid row : List ℕ) → q ≡ planes c → k ≡ c → length row ≡ k → i * c + c ≤ length mid → BytesMade (cell c a) c i n mid
    → ((j : ℕ) → j < length row → get_or row j 0 ≡ column a (i * (2 * q)) q j) → BytesMade (cell c a) c (i + 1) n (put_mid (i * c) k mid row)
bytes_more c q i k n a mid row e ek long room B R = record { len = put_long (i * c) k mid row fits long ∙ B.len; made = λ k j h l. go k j (dec_lt k i) h l }
  where
    fits : i * c + k ≤ length mid
    fits = omega arith

    go : (h j : ℕ) → Dec (h < i) → h < i + 1 → j < c → get_or (put_mid (i * c) k mid row) (h * c + j) 0 ≡ cell c a h j
    go h j (yes b) m l = put_before (i * c) k mid row fits long (h * c + j) (omega (arith, cells_in i c h b)) ∙ B.made h j b l
    go h j (no b) m l =
        let d : h ≡ i = omega arith in
        rw d (put_within (i * c) k mid row fits long j (omega arith) ∙ R j (omega arith) ∙ column_cell c i q j a e)

pub bytes_all : (M : Matrix) (r c : ℕ) (new : List ℕ) → BytesMade M c r (r * c) new → new ≡ bytes r c M
unfolding bytes
bytes_all M r c new B =
    ext_get_or 0 new (joined r (λ i. tab c (M i))) (B.len ∙ sym (length_joined r c (λ i. tab c (M i)) (λ i. length_tab c (M i))))
    (λ n l.
    by_row (λ n. get_or new n 0 ≡ get_or (joined r (λ i. tab c (M i))) n 0) r c
    (λ i j h m. B.made i j h m ∙ sym (get_d_joined r c (λ i. tab c (M i)) (λ i. length_tab c (M i)) i j h m ∙ get_d_tab c (M i) j m)) n (omega (arith, B.len)))

-- how long they are, and that each is a digit where M holds digits
pub bytes_length : (r c : ℕ) (M : Matrix) → length (bytes r c M) ≡ r * c
unfolding bytes
bytes_length r c M = length_joined r c (λ i. tab c (M i)) (λ i. length_tab c (M i))

pub byte_of_lem : (r c : ℕ) (M : Matrix) (i j : ℕ) → i < r → j < c → get_or (bytes r c M) (i * c + j) 0 ≡ M i j
unfolding bytes
byte_of_lem r c M i j h l = get_d_joined r c (λ i. tab c (M i)) (λ i. length_tab c (M i)) i j h l ∙ get_d_tab c (M i) j l

pub bytes_small : (r c : ℕ) (M : Matrix) → ((i j : ℕ) → M i j < 3) → (k : ℕ) → get_or (bytes r c M) k 0 < 3
bytes_small r c M d k = go (dec_lt k (r * c))
  where
    go : Dec (k < r * c) → get_or (bytes r c M) k 0 < 3
    go (yes h) = by_row (λ n. get_or (bytes r c M) n 0 < 3) r c (λ i j p q. rw (byte_of_lem r c M i j p q) (d i j)) k h
    go (no h) = rw (get_or-eq_default (bytes r c M) 0 {n = k} (omega (arith, bytes_length r c M))) (omega arith)
