-- The tests of `pack`, and the digits that it packs. Assumes nothing.
use mathlib.Core.Path.{◌≡◌, refl, sym, ap, ◌∙◌}
use mathlib.Core.Bool.{Bool, true, false, ◌||◌}
use mathlib.Core.List.{List}
use Prim.Native.Nat.{ℕ, zero, suc, ◌+◌, ◌-◌, ◌*◌, ◌/◌, ◌%◌, ◌≤◌, ◌<◌, min, max}
use native.Mathlib.Nat.{mul-le-mul, mul-le-mul_right, suc-mul, mul-zero, div-lt_iff_lt-mul, mod-lt, div-add-mod'}
use native.Mathlib.Numerals.{add-one}
use native.Mathlib.Decide.{dec_lt}
use native.Mathlib.Omega.{arith}
use lib.Dec.{T, ltb, eqb}
use lib.ListN.{length, get_or, get_or-eq_default}
use borrow.Author.Tests.{ltb-false, lt-ltb, le-ltb, eqb-true, eq-eqb, not-false}
use Rattle.std.proofs.Common.{Option, None, Some, MatchOption, IsSome}
use Rattle.cells.specs.Any.{any, First}
use Rattle.cells.proofs.AnyLaws.{any_none, any_at, or_left, or_right}
use Rattle.cells.proofs.LeastLaws.{true_false, least_of, least_first}
use Rattle.buffers.specs.Buffer.{planes, words, encode}
use Rattle.buffers.specs.Fault.{FirstBad}
use Rattle.requests.specs.declared.Size.{Size}
use Rattle.requests.specs.Answers.{first}
use Rattle.requests.specs.Sizes.{unfit}
use Rattle.requests.proofs.SizeLaws.{over_rows, over_columns, not_over, unfit_long, not_unfit}
use Rattle.requests.specs.Exact as exact
use Rattle.requests.proofs.WordLaws.{placed_positive}
use Rattle.requests.proofs.AnswerLaws.{positive, first_none}
use Rattle.rows.specs.Row.{Made}
use Rattle.rows.proofs.RowLaws.{made_cong}
use Rattle.rows.proofs.MatrixLaws.{RowsMade, rows_all}
use Rattle.matrix.specs.Gathered.{up_to}
use Rattle.matrix.specs.Unpacked.{byte_at, unlike}
use Rattle.matrix.specs.Pack.{above_first, above_at, pack_tests}
use Rattle.std.specs.List.{between}
use Rattle.std.proofs.lemmas.List.Edits.{length-between, get_or-between}
use Rattle.matrix.proofs.GatherLaws.{up_in, up_out, up_cong}

pub cells_le : (r c : ℕ) → r ≤ 1024 → c ≤ 1024 → r * c ≤ 1048576
cells_le r c hr hc = mul-le-mul {n₂ = 1024} {m₂ = 1024} hr hc

-- the cells of row i
pub cells_in : (r c i : ℕ) → i < r → i * c + c ≤ r * c
cells_in r c i h = rw (← suc-mul i c) (mul-le-mul_right c h)

pub unlike_long : (s : Size) (n : ℕ) → unlike s n ≡ false → n ≡ s.rows * s.columns
unfolding unlike
unlike_long s n h = eqb-true n (s.rows * s.columns) (not-false (eqb n (s.rows * s.columns)) h)

pub not_unlike : (s : Size) (n : ℕ) → n ≡ s.rows * s.columns → unlike s n ≡ false
unfolding unlike
not_unlike s n e = rw (eq-eqb n (s.rows * s.columns) e)

-- the largest byte so far is above 2 where one of them is
ltb_max : (a b : ℕ) → ltb 2 (max a b) ≡ (ltb 2 a || ltb 2 b)
ltb_max a b = go (dec_lt 2 a) (dec_lt 2 b)
  where
    go : Dec (2 < a) → Dec (2 < b) → ltb 2 (max a b) ≡ (ltb 2 a || ltb 2 b)
    go (yes h) k = rw (lt-ltb 2 (max a b) (omega arith), lt-ltb 2 a h)
    go (no h) (yes k) = rw (lt-ltb 2 (max a b) (omega arith), le-ltb 2 a (omega arith), lt-ltb 2 b k)
    go (no h) (no k) = rw (le-ltb 2 (max a b) (omega arith), le-ltb 2 a (omega arith), le-ltb 2 b (omega arith))

pub above_none : (f : ℕ → ℕ) → ltb 2 0 ≡ any 0 (λ k. ltb 2 (f k))
unfolding any
above_none f = refl

pub above_more : (f : ℕ → ℕ) (k w : ℕ) → ltb 2 w ≡ any k (λ k. ltb 2 (f k)) → ltb 2 (max w (f k)) ≡ any (k + 1) (λ k. ltb 2 (f k))
unfolding any
above_more f k w e = rw (add-one k) (ltb_max w (f k) ∙ ap (λ (b : Bool). b || ltb 2 (f k)) e)

-- what no test's holding says
pub record Ready (s : Size) (cells : List ℕ) (n : ℕ) : Type 0 where
  pub rows : s.rows ≤ 1024
  pub columns : s.columns ≤ 1024
  pub long : length cells ≡ s.rows * s.columns
  pub room : n ≡ words s.rows s.columns
  pub small : (k : ℕ) → get_or cells k 0 < 3

pub pack_positive : (s : Size) (cells : List ℕ) (n : ℕ) → T (positive (pack_tests s cells n))
unfolding pack_tests
pack_positive s cells n = rw (placed_positive 8 _) tt

pub ready : (s : Size) (cells : List ℕ) (n : ℕ) → first (pack_tests s cells n) ≡ 0 → Ready s cells n
unfolding pack_tests
ready s cells n z =
    let t : exact.None (pack_tests s cells n) = first_none (pack_tests s cells n) (pack_positive s cells n) z in
    record {
      rows = over_rows s t.0;
      columns = over_columns s t.0;
      long = unlike_long s (length cells) (or_left (unlike s (length cells)) (unfit s n) t.1.0);
      room = unfit_long s n (or_right (unlike s (length cells)) (unfit s n) t.1.0);
      small = λ k. go k t.1.1.0 (dec_lt k (length cells));
    }
  where
    go : (k : ℕ) → any (length cells) (λ k. ltb 2 (get_or cells k 0)) ≡ false → Dec (k < length cells) → get_or cells k 0 < 3
    go k h (yes l) = let e : get_or cells k 0 ≤ 2 = ltb-false 2 (get_or cells k 0) (any_at (λ k. ltb 2 (get_or cells k 0)) (length cells) h k l) in omega arith
    go k h (no l) = rw (get_or-eq_default cells 0 {n = k} (omega arith)) (omega arith)

pub ready_none : (s : Size) (cells : List ℕ) (n : ℕ) → Ready s cells n → exact.None (pack_tests s cells n)
unfolding pack_tests
ready_none s cells n R = (
  not_over s R.rows R.columns,
  (
    rw (not_unlike s (length cells) R.long) (not_unfit s n R.room),
    (any_none (λ k. ltb 2 (get_or cells k 0)) (length cells) (λ k _. le-ltb 2 (get_or cells k 0) (omega (arith, R.small k))), tt),
  ),
)

-- the row that is made of the c cells from place i c on
module _ (cells : List ℕ) (c i : ℕ) (room : i * c + c ≤ length cells) where
  pub row_long : length (between (i * c) (i * c + c) cells) ≡ c
  row_long = length-between cells (i * c) (i * c + c) room ∙ omega arith

  pub row_packed : (x q : ℕ) (mid new : List ℕ)
      → Made (λ p. up_to (min 64 (length (between (i * c) (i * c + c) cells) - 64 * p)) (λ t. get_or (between (i * c) (i * c + c) cells) (64 * p + t) 0)) x q q mid new
      → Made (λ p. up_to (min 64 (c - 64 * p)) (λ t. get_or cells (i * c + 64 * p + t) 0)) x q q mid new
  row_packed x q mid new M =
      let row = between (i * c) (i * c + c) cells in
      made_cong (λ p. up_to (min 64 (c - 64 * p)) (λ t. get_or row (64 * p + t) 0)) (λ p. up_to (min 64 (c - 64 * p)) (λ t. get_or cells (i * c + 64 * p + t) 0)) x q q mid new
      (λ p t l.
      up_cong (min 64 (c - 64 * p)) (λ t. get_or row (64 * p + t) 0) (λ t. get_or cells (i * c + 64 * p + t) 0)
      (λ t l.
      let a : i * c + (64 * p + t) ≡ i * c + 64 * p + t = omega arith in
      get_or-between cells (i * c) (i * c + c) (64 * p + t) 0 (omega arith) ∙ ap (λ (n : ℕ). get_or cells n 0) a) t)
      (rw row_long at M)

-- the rows that are packed are those of the encoding
pub packed_all : (q r c : ℕ) (cells new : List ℕ) → q ≡ planes c
    → RowsMade (λ i p. up_to (min 64 (c - 64 * p)) (λ t. get_or cells (i * c + 64 * p + t) 0)) r q (words r c) new → new ≡ encode r c (byte_at c cells)
unfolding byte_at
packed_all q r c cells new e R =
    rows_all (λ i p. up_to (min 64 (c - 64 * p)) (λ t. get_or cells (i * c + 64 * p + t) 0)) (byte_at c cells) q r c new e
    (λ i p t h m k l.
    let a : i * c + 64 * p + t ≡ i * c + (64 * p + t) = omega arith in
    up_in (min 64 (c - 64 * p)) (λ t. get_or cells (i * c + 64 * p + t) 0) t (omega arith) ∙ ap (λ (n : ℕ). get_or cells n 0) a)
    (λ i p t h m k l. up_out (min 64 (c - 64 * p)) (λ t. get_or cells (i * c + 64 * p + t) 0) t (omega arith)) R

-- ---- the first digit above 2

module _ (cells : List ℕ) where
  abbrev above : ℕ → Bool
  above k = ltb 2 (get_or cells k 0)

  -- what a search for it says: a place, with none before it, or that there is none
  abbrev pub Found : Option ℕ → Type 0
  Found o = MatchOption o ((k : ℕ) → k < length cells → get_or cells k 0 ≤ 2) (λ i. (i < length cells) × (2 < get_or cells i 0) × ((k : ℕ) → k < i → get_or cells k 0 ≤ 2))

  module _ (some : any (length cells) above ≡ true) where
    pub above_some : (o : Option ℕ) → Found o → IsSome o
    above_some None h = absurd (true_false (any (length cells) above) some (any_none above (length cells) (λ k l. le-ltb 2 (get_or cells k 0) (h k l))))
    above_some (Some i) h = refl

    pub above_found : (i : ℕ) → Found (Some i) → i ≡ above_first cells
    unfolding above_first
    above_found i h = sym (least_of above (length cells) i some (lt-ltb 2 (get_or cells i 0) h.1) (any_none above i (λ k l. le-ltb 2 (get_or cells k 0) (h.2 k l))))

    pub above_within : First (length cells) above (above_first cells)
    unfolding above_first
    above_within = least_first above (length cells) some

    -- .. is a place: cell k is in row k / c and column k % c
    module _ (r c : ℕ) (long : length cells ≡ r * c) where
      pub some_column : 0 < c
      some_column = go c refl
        where
          go : (d : ℕ) → c ≡ d → 0 < d
          go zero e = absurd (let z : length cells ≡ 0 = long ∙ ap (λ (d : ℕ). r * d) e ∙ mul-zero r in omega (arith, above_within.within))
          go (suc d) e = omega arith

      pub row_below : (k : ℕ) → k ≡ above_first cells → k / c < r
      row_below k e = (div-lt_iff_lt-mul some_column).1 (omega (arith, e, long, above_within.within))

      -- it is the first by row and then column
      pub above_first_lem : FirstBad r 0 c (λ i j. ltb 2 (byte_at c cells i j)) (above_at c cells)
      unfolding above_at byte_at
      above_first_lem =
          let k = above_first cells in
          let F = above_within in
          let split : k / c * c + k % c ≡ k = div-add-mod' k c in
          record {
            row = row_below k refl;
            begins = omega arith;
            ends = mod-lt k some_column;
            holds = rw split F.holds;
            above = λ i j l _ m. any_at above k F.none (i * c + j) (omega (arith, split, cells_in (k / c) c i l));
            before = λ j _ l. any_at above k F.none (k / c * c + j) (omega (arith, split));
          }
