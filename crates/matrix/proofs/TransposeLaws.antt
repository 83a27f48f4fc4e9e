-- The rows of a transpose, made block by block, and the tests of `transpose`. Assumes nothing.
use mathlib.Core.Path.{◌≡◌, sym, ap, ◌∙◌}
use mathlib.Core.Bool.{or_comm}
use mathlib.Core.List.{List}
use Prim.Native.Nat.{ℕ, ◌+◌, ◌-◌, ◌*◌, ◌%◌, ◌≤◌, ◌<◌, min}
use native.Mathlib.Nat.{add-mul, mul-le-mul}
use native.Mathlib.Decide.{dec_lt}
use native.Mathlib.Omega.{arith}
use lib.Arith.{digits_mod}
use lib.Dec.{ltb}
use lib.ListN.{get_or}
use Rattle.cells.specs.Bit.{bit, word_of}
use Rattle.cells.specs.Pair.{WordPair}
use Rattle.buffers.specs.Buffer.{planes, wide, words, unit, sign, cell, Legal, encode}
use Rattle.buffers.proofs.SizeLaws.{planes_le, row_fits, bit_at_word, unit_small, sign_small}
use Rattle.blocks64.specs.Block.{Spaced, transposed_word, Spread}
use Rattle.requests.specs.declared.Size.{Size}
use Rattle.requests.specs.Sizes.{over}
use Rattle.rows.proofs.MatrixLaws.{RowsMade, rows_all, row_ends}
use Rattle.matrix.specs.Gathered.{up_to}
use Rattle.matrix.specs.RowBlocks.{column, WordMade, BlockMade}
use Rattle.matrix.specs.Transpose.{transposed_size}
use Rattle.matrix.proofs.GatherLaws.{up_in, up_out, gathered_holds}

-- ---- the words of a block

-- row t of the rows from row 64 p on
in_row : (p u k t : ℕ) → 64 * p * (2 * u) + k + t * (2 * u) ≡ (64 * p + t) * (2 * u) + k
in_row p u k t = omega (arith, add-mul (64 * p) t (2 * u))

-- word k of those rows
pub block_in : (r c p u k x long : ℕ) → r ≤ 1024 → c ≤ 1024 → u ≡ planes c → p < planes r → k < u + u → long ≡ words r c → x ≡ 64 * p * (2 * u) + k
    → Spaced x (2 * u) (min 64 (r - 64 * p)) long
block_in r c p u k x long hr hc e l h el ex =
    let near : 2 * u ≤ 32 = omega (arith, planes_le c hc) in
    let far : 64 * p ≤ 960 = omega (arith, planes_le r hr) in
    record {
      few = omega arith;
      near = near;
      start = omega (arith, mul-le-mul {n₁ = 64 * p} {m₁ = 2 * u} {n₂ = 960} {m₂ = 32} far near);
      room = λ t i. omega (arith, in_row p u k t, row_fits r c (64 * p + t) u long e el (omega arith));
    }

module _ (r c : ℕ) (a : List ℕ) (k t p u : ℕ) (l : t < 64) (e : u ≡ planes c) where
  unit_at : (s : ℕ) → bit (get_or a (64 * p * (2 * u) + k + s * (2 * u)) 0) t ≡ unit c a (64 * p + s) (64 * k + t)
  unfolding unit wide
  unit_at s = rw (in_row p u k s, e) (sym (bit_at_word a ((64 * p + s) * (2 * planes c)) k t l))

  sign_at : (s : ℕ) → bit (get_or a (64 * p * (2 * u) + k + u + s * (2 * u)) 0) t ≡ sign c a (64 * p + s) (64 * k + t)
  unfolding sign wide
  sign_at s =
      let d : 64 * p * (2 * u) + k + u + s * (2 * u) ≡ (64 * p + s) * (2 * u) + u + k = omega (arith, in_row p u k s) in
      rw (d, e) (sym (bit_at_word a ((64 * p + s) * (2 * planes c) + planes c) k t l))

  -- bit t of them, gathered, holds the digits of column 64 k + t
  pub column_holds : Legal r c a → 64 * k + t < c
      → WordPair (column r c a (64 * k + t) p) (transposed_word a (64 * p * (2 * u) + k) (2 * u) (min 64 (r - 64 * p)) t) (transposed_word a (64 * p * (2 * u) + k + u) (2 * u) (min 64 (r - 64 * p)) t)
  unfolding column cell transposed_word
  column_holds L h =
      let n : ℕ = min 64 (r - 64 * p) in
      gathered_holds (λ s. unit c a (64 * p + s) (64 * k + t)) (λ s. sign c a (64 * p + s) (64 * k + t)) n _ _ (omega arith)
      (λ s. unit_small c a (64 * p + s) (64 * k + t)) (λ s. sign_small c a (64 * p + s) (64 * k + t)) (λ s i. L.sound (64 * p + s) (64 * k + t) (omega arith) h)
      (ap (λ (f : ℕ → ℕ). word_of f n) (λ i s. unit_at s i)) (ap (λ (f : ℕ → ℕ). word_of f n) (λ i s. sign_at s i))

-- ---- the words that are written

-- words of rows of d words are in one column where they are one
one_column : (d t s t' s' : ℕ) → s < d → s' < d → t * d + s ≡ t' * d + s' → s ≡ s'
one_column d t s t' s' h k e = sym (digits_mod t h) ∙ ap (λ (n : ℕ). n % d) e ∙ digits_mod t' k

-- unit words at y, and sign words q words after them
pub word_made : (f : ℕ → ℕ → ℕ) (g h : ℕ → ℕ) (x q p m y : ℕ) (old mid new : List ℕ) → p < q → y ≡ x + p → ((t : ℕ) → t < m → WordPair (f t) (g t) (h t))
    → Spread g y (2 * q) m old mid → Spread h (y + q) (2 * q) m mid new → WordMade f x q p m old new
word_made f g h x q p m y old mid new l e pairs U S = record {
  long = S.long ∙ U.long;
  made = λ t i.
      let a : x + t * (2 * q) + p ≡ y + t * (2 * q) = omega arith in
      let b : x + t * (2 * q) + q + p ≡ y + q + t * (2 * q) = omega arith in
      rw (a, b, S.kept (y + t * (2 * q)) (λ s j d. absurd (omega (arith, one_column (2 * q) t p s (p + q) (omega arith) (omega arith) (omega arith)))), U.spread t i, S.spread t i) (pairs t i);
  before = λ n i. S.kept n (λ t j d. omega arith) ∙ U.kept n (λ t j d. omega arith);
  units = λ t s i o.
      S.kept _ (λ t' j d. omega (arith, one_column (2 * q) t s t' (p + q) (omega arith) (omega arith) (omega arith)))
      ∙ U.kept _ (λ t' j d. o (one_column (2 * q) t s t' p (omega arith) (omega arith) (omega arith)));
  signs = λ t s i o.
      S.kept _ (λ t' j d. o (let z : q + s ≡ p + q = one_column (2 * q) t (q + s) t' (p + q) (omega arith) (omega arith) (omega arith) in omega arith))
      ∙ U.kept _ (λ t' j d. omega (arith, one_column (2 * q) t (q + s) t' p (omega arith) (omega arith) (omega arith)));
}

-- m rows more
pub rows_block : (f : ℕ → ℕ → ℕ → ℕ) (i q m n : ℕ) (mid new : List ℕ) → RowsMade f i q n mid → BlockMade (λ t. f (i + t)) (i * (2 * q)) q m q mid new → RowsMade f (i + m) q n new
rows_block f i q m n mid new R B = record { len = B.long ∙ R.len; made = λ k p l h. go k p l h (dec_lt k i) }
  where
    go : (k p : ℕ) → k < i + m → p < q → Dec (k < i) → WordPair (f k p) (get_or new (k * (2 * q) + p) 0) (get_or new (k * (2 * q) + q + p) 0)
    go k p l h (yes b) =
        rw (B.before (k * (2 * q) + p) (omega (arith, row_ends q k i b)), B.before (k * (2 * q) + q + p) (omega (arith, row_ends q k i b))) (R.made k p b h)
    go k p l h (no b) =
        let e : i + (k - i) ≡ k = omega arith in
        let d : i * (2 * q) + (k - i) * (2 * q) ≡ k * (2 * q) = sym (add-mul i (k - i) (2 * q)) ∙ ap (λ (j : ℕ). j * (2 * q)) e in
        rw (d, e) at (B.made (k - i) p (omega arith) h)

-- the rows of the transpose are those of its encoding
pub transposed : (q r c : ℕ) (a new : List ℕ) → q ≡ planes r → RowsMade (column r c a) c q (words c r) new → new ≡ encode c r (λ i j. cell c a j i)
unfolding column
transposed q r c a new e R =
    rows_all (λ j p. up_to (min 64 (r - 64 * p)) (λ t. cell c a (64 * p + t) j)) (λ i j. cell c a j i) q c r new e
    (λ i p t h m k l. up_in (min 64 (r - 64 * p)) (λ t. cell c a (64 * p + t) i) t (omega arith))
    (λ i p t h m k l. up_out (min 64 (r - 64 * p)) (λ t. cell c a (64 * p + t) i) t (omega arith)) R

pub transposed_over : (s : Size) → over s ≡ over (transposed_size s)
unfolding over
transposed_over s = or_comm (ltb 1024 s.rows) (ltb 1024 s.columns)
