-- Matrices that are made row by row, and what they are. Assumes nothing.
use mathlib.Core.Path.{◌≡◌, refl, sym, ap, ap₂, ◌∙◌}
use mathlib.Core.List.{List}
use Prim.Native.Nat.{ℕ, suc, ◌+◌, ◌*◌, ◌≤◌, ◌<◌}
use native.Mathlib.Nat.{suc-mul, mul-le-mul_right}
use native.Mathlib.Decide.{dec_lt}
use native.Mathlib.Omega.{arith}
use lib.ListN.{length, get_or}
use Rattle.cells.specs.Pair.{digit, WordPair}
use Rattle.cells.specs.Digit.{Matrix}
use Rattle.buffers.specs.Buffer.{planes, wide, words, bit_at, unit, sign, cell, Legal, Words, encode}
use Rattle.buffers.proofs.SizeLaws.{row_fits}
use Rattle.buffers.proofs.BufferLaws.{shown, cell_word, word_legal}
use Rattle.rows.specs.Row.{digit_at, column, LegalRow, of1, of2, Made, Readable}

-- ---- the rows of a legal buffer

pub row_readable : (r c i q : ℕ) (ws : List ℕ) → q ≡ planes c → Legal r c ws → Words ws → i < r → Readable q q (i * (2 * q)) ws
unfolding LegalRow wide
row_readable r c i q ws e L fits h = record {
  room = omega (arith, row_fits r c i q (length ws) e L.long h);
  legal = rw e (λ p l. word_legal r c ws L fits i p h l);
}

-- the digits of row i, word by word
pub cell_digit : (c i p t : ℕ) (ws : List ℕ) → t < 64 → digit_at ws (i * (2 * planes c)) (planes c) p t ≡ cell c ws i (64 * p + t)
unfolding digit_at wide
cell_digit c i p t ws l = sym (cell_word c ws i p t l)

-- the columns of row i
pub column_cell : (c i q j : ℕ) (ws : List ℕ) → q ≡ planes c → column ws (i * (2 * q)) q j ≡ cell c ws i j
unfolding column digit_at digit cell unit sign bit_at wide
column_cell c i q j ws e = rw e

-- ---- rows, one after another

-- the first n rows hold the digits f
pub record RowsMade (f : ℕ → ℕ → ℕ → ℕ) (n q long : ℕ) (new : List ℕ) : Type 0 where
  pub len : length new ≡ long
  pub made : (i p : ℕ) → i < n → p < q → WordPair (f i p) (get_or new (i * (2 * q) + p) 0) (get_or new (i * (2 * q) + q + p) 0)

pub rows_none : (f : ℕ → ℕ → ℕ → ℕ) (q : ℕ) (new : List ℕ) → RowsMade f 0 q (length new) new
rows_none f q new = record { len = refl; made = λ i p l m. absurd (omega arith) }

pub row_ends : (q a b : ℕ) → a < b → a * (2 * q) + (q + q) ≤ b * (2 * q)
row_ends q a b l = let e : suc a * (2 * q) ≤ b * (2 * q) = mul-le-mul_right (2 * q) l in omega (arith, suc-mul a (2 * q))

pub rows_more : (f : ℕ → ℕ → ℕ → ℕ) (i q n : ℕ) (mid new : List ℕ) → RowsMade f i q n mid → Made (f i) (i * (2 * q)) q q mid new → RowsMade f (i + 1) q n new
rows_more f i q n mid new R M = record { len = M.long ∙ R.len; made = λ k p l m. go k p (dec_lt k i) l m }
  where
    go : (k p : ℕ) → Dec (k < i) → k < i + 1 → p < q → WordPair (f k p) (get_or new (k * (2 * q) + p) 0) (get_or new (k * (2 * q) + q + p) 0)
    go k p (yes h) l m =
        rw (M.before (k * (2 * q) + p) (omega (arith, row_ends q k i h)), M.before (k * (2 * q) + q + p) (omega (arith, row_ends q k i h))) (R.made k p h m)
    go k p (no h) l m =
        let e : k ≡ i = omega arith in
        rw e (M.made p m)

-- rows that hold the digits f are the encoding of M, where f is M at real columns and 0 at the others
pub rows_all : (f : ℕ → ℕ → ℕ → ℕ) (M : Matrix) (q r c : ℕ) (new : List ℕ) → q ≡ planes c
    → ((i p t : ℕ) → i < r → p < planes c → t < 64 → 64 * p + t < c → f i p t ≡ M i (64 * p + t))
    → ((i p t : ℕ) → i < r → p < planes c → t < 64 → c ≤ 64 * p + t → f i p t ≡ 0)
    → RowsMade f r q (words r c) new → new ≡ encode r c M
unfolding wide
rows_all f M q r c new e real pad R = let S = rw e at R in shown r c M new f S.len S.made real pad

-- ---- place by place operations on one matrix or two

pub placewise1 : (op : ℕ → ℕ) → op 0 ≡ 0 → (q r c : ℕ) (a new : List ℕ) → q ≡ planes c → Legal r c a
    → RowsMade (λ i. of1 op q a (i * (2 * q))) r q (words r c) new → new ≡ encode r c (λ i j. op (cell c a i j))
unfolding of1
placewise1 op z q r c a new e A R =
    rows_all (λ i. of1 op q a (i * (2 * q))) (λ i j. op (cell c a i j)) q r c new e
    (rw e (λ i p t h m k l. ap op (cell_digit c i p t a k)))
    (rw e (λ i p t h m k l. ap op (cell_digit c i p t a k ∙ A.clear i (64 * p + t) h l (omega arith)) ∙ z)) R

pub placewise2 : (op : ℕ → ℕ → ℕ) → op 0 0 ≡ 0 → (q r c : ℕ) (a b new : List ℕ) → q ≡ planes c → Legal r c a → Legal r c b
    → RowsMade (λ i. of2 op q a (i * (2 * q)) b (i * (2 * q))) r q (words r c) new → new ≡ encode r c (λ i j. op (cell c a i j) (cell c b i j))
unfolding of2
placewise2 op z q r c a b new e A B R =
    rows_all (λ i. of2 op q a (i * (2 * q)) b (i * (2 * q))) (λ i j. op (cell c a i j) (cell c b i j)) q r c new e
    (rw e (λ i p t h m k l. ap₂ op (cell_digit c i p t a k) (cell_digit c i p t b k)))
    (rw e
    (λ i p t h m k l.
    ap₂ op (cell_digit c i p t a k ∙ A.clear i (64 * p + t) h l (omega arith)) (cell_digit c i p t b k ∙ B.clear i (64 * p + t) h l (omega arith)) ∙ z))
    R
