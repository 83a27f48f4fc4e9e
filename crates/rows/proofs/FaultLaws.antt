-- The faults of a row, from the tests of its pairs of words. Assumes nothing.
use mathlib.Core.Path.{◌≡◌, refl, sym, ap, ◌∙◌}
use mathlib.Core.Bool.{Bool, true, false, ◌||◌}
use mathlib.Core.List.{List}
use Prim.Native.Nat.{ℕ, zero, suc, ◌+◌, ◌-◌, ◌*◌, ◌/◌, ◌%◌, ◌^◌, ◌≤◌, ◌<◌, max}
use native.Mathlib.Decide.{dec_lt}
use native.Mathlib.Omega.{arith}
use lib.Dec.{ltb}
use lib.ListN.{get_or}
use lib.Bits.{bit_and, bit_or, bit_xor, and_lt, xor_lt}
use Rattle.cells.specs.Any.{any, least, First}
use Rattle.cells.specs.Bit.{bit}
use Rattle.cells.specs.Pair.{digit, LegalPair}
use Rattle.cells.proofs.AnyLaws.{any_none, any_at, any_split, any_cong, or_yes}
use Rattle.cells.proofs.LeastLaws.{true_false, least_first, least_of, least_cong}
use Rattle.cells.proofs.BitLaws.{bit_lt, bit_of_and, bit_of_or}
use Rattle.cells.proofs.WordLaws.{ext, bit_high, bit_of_zero}
use Rattle.cells.proofs.MaskLaws.{low_in}
use Rattle.cells.proofs.FaultLaws.{stray_none, stray_some}
use Rattle.buffers.specs.Buffer.{planes, bit_at}
use Rattle.buffers.proofs.SizeLaws.{planes_room, planes_tight, bit_at_word}
use borrow.Author.Tests.{ltb-false}
use Rattle.std.proofs.Common.{Option, None, Some, MatchOption, IsSome}
use Rattle.rows.specs.Row.{digit_at, column, LegalRow}
use Rattle.rows.specs.Fault.{stray_row, padded_row, stray_column, padded_column, Found}

-- ---- words in which faults are gathered

pub or_none : (a b : ℕ) → a < 2 ^ 64 → b < 2 ^ 64 → bit_or a b ≡ 0 → (a ≡ 0) × (b ≡ 0)
or_none a b ha hb e = (
  ext 64 a 0 ha (omega arith) (λ t l. omega (arith, low t, bit_of_zero t)),
  ext 64 b 0 hb (omega arith) (λ t l. omega (arith, low t, bit_of_zero t)),
)
  where
    low : (t : ℕ) → max (bit a t) (bit b t) ≡ 0
    low t = sym (bit_of_or a b t) ∙ ap (λ (w : ℕ). bit w t) e ∙ bit_of_zero t

pub found_none : Found 0 false
found_none = record { none = λ e. refl; some = λ ne. absurd (ne refl) }

pub found_more : (a b : ℕ) (p q : Bool) → a < 2 ^ 64 → b < 2 ^ 64 → Found a p → Found b q → Found (bit_or a b) (p || q)
found_more a b p q ha hb A B = record {
  none = λ e. let z = or_none a b ha hb e in rw (A.none z.0) (B.none z.1);
  some = λ ne. go a b A.some B.some ne;
}
  where
    go : (a b : ℕ) → ((a ≡ 0 → ⊥) → p ≡ true) → ((b ≡ 0 → ⊥) → q ≡ true) → (bit_or a b ≡ 0 → ⊥) → (p || q) ≡ true
    go zero zero f g ne = absurd (ne refl)
    go zero (suc b) f g ne = or_yes p q (g (λ e. omega arith))
    go (suc a) b f g ne = rw (f (λ e. omega arith))

-- the sign bits without unit of one pair
pub found_word : (u s : ℕ) → u < 2 ^ 64 → s < 2 ^ 64 → Found (bit_and s (bit_xor s u)) (any 64 (λ t. ltb (bit u t) (bit s t)))
found_word u s hu hs = record {
  none = λ e. sym (stray_none u s 64 (omega arith) (whole ∙ e));
  some = λ ne. sym (stray_some u s 64 (omega arith) hu hs (λ e. ne (sym whole ∙ e)));
}
  where
    bad_lt : bit_and s (bit_xor s u) < 2 ^ 64
    bad_lt = and_lt 64 s (bit_xor s u) hs (xor_lt 64 s u hs hu)

    whole : bit_and (bit_and s (bit_xor s u)) (2 ^ 64 - 1) ≡ bit_and s (bit_xor s u)
    whole =
        ext 64 _ _ (and_lt 64 _ (2 ^ 64 - 1) bad_lt (omega arith)) bad_lt
        (λ t l. omega (arith, bit_of_and (bit_and s (bit_xor s u)) (2 ^ 64 - 1) t, low_in 64 t l, bit_lt (bit_and s (bit_xor s u)) t))

-- ---- stray signs, a pair more

-- the test of the lowest n places of pair p
abbrev pub pair_stray : List ℕ → ℕ → ℕ → ℕ → ℕ → Bool
pair_stray ws x q p n = any n (λ t. ltb (bit (get_or ws (x + p) 0) t) (bit (get_or ws (x + p + q) 0) t))

stray_pair : (ws : List ℕ) (x q p n : ℕ) → n ≤ 64 → stray_row ws x q (64 * p + n) ≡ (stray_row ws x q (64 * p) || pair_stray ws x q p n)
unfolding stray_row
stray_pair ws x q p n h =
    any_split (λ j. ltb (bit_at ws x j) (bit_at ws (x + q) j)) (64 * p) n
    ∙ ap (λ (b : Bool). any (64 * p) (λ j. ltb (bit_at ws x j) (bit_at ws (x + q) j)) || b)
    (any_cong (λ t. ltb (bit_at ws x (64 * p + t)) (bit_at ws (x + q) (64 * p + t))) (λ t. ltb (bit (get_or ws (x + p) 0) t) (bit (get_or ws (x + p + q) 0) t)) n
    (λ t l.
    let e : x + q + p ≡ x + p + q = omega arith in
    rw (bit_at_word ws x p t (omega arith), bit_at_word ws (x + q) p t (omega arith), e)))

pub strays_none : (ws : List ℕ) (x q : ℕ) → Found 0 (stray_row ws x q (64 * 0))
unfolding stray_row any
strays_none ws x q = found_none

pub strays_more : (ws : List ℕ) (x q p w u s : ℕ) → w < 2 ^ 64 → u < 2 ^ 64 → s < 2 ^ 64 → u ≡ get_or ws (x + p) 0 → s ≡ get_or ws (x + p + q) 0
    → Found w (stray_row ws x q (64 * p)) → Found (bit_or w (bit_and s (bit_xor s u))) (stray_row ws x q (64 * (p + 1)))
strays_more ws x q p w u s hw hu hs eu es F =
    let e : 64 * (p + 1) ≡ 64 * p + 64 = omega arith in
    let g : any 64 (λ t. ltb (bit u t) (bit s t)) ≡ pair_stray ws x q p 64 = rw (eu, es) in
    rw (e, stray_pair ws x q p 64 (omega arith), ← g)
    (found_more w (bit_and s (bit_xor s u)) (stray_row ws x q (64 * p)) (any 64 (λ t. ltb (bit u t) (bit s t))) hw (and_lt 64 s (bit_xor s u) hs (xor_lt 64 s u hs hu)) F (found_word u s hu hs))

-- no stray sign in n columns, so none in fewer
pub stray_fewer : (ws : List ℕ) (x q c n : ℕ) → c ≤ n → stray_row ws x q n ≡ false → stray_row ws x q c ≡ false
unfolding stray_row
stray_fewer ws x q c n l h = any_none _ c (λ j k. any_at _ n h j (omega arith))

-- ---- the whole row, of which the last pair is pair l

module _ (ws : List ℕ) (x q c l : ℕ) (row : q ≡ planes c) (last : q ≡ l + 1) where
  whole : c ≡ 64 * l + (c - 64 * l)
  whole = omega (arith, planes_room c, planes_tight c)

  pub last_fits : (0 < c - 64 * l) × (c - 64 * l ≤ 64)
  last_fits = (omega (arith, planes_room c, planes_tight c), omega (arith, planes_room c, planes_tight c))

  split : stray_row ws x q c ≡ (stray_row ws x q (64 * l) || pair_stray ws x q l (c - 64 * l))
  split = ap (stray_row ws x q) whole ∙ stray_pair ws x q l (c - 64 * l) last_fits.1

  pub stray_early : (w : ℕ) → Found w (stray_row ws x q (64 * l)) → (w ≡ 0 → ⊥) → true ≡ stray_row ws x q c
  stray_early w F ne = sym (split ∙ rw (F.some ne))

  pub stray_late : (w : ℕ) (b : Bool) (u s : ℕ) → Found w (stray_row ws x q (64 * l)) → w ≡ 0 → u ≡ get_or ws (x + l) 0 → s ≡ get_or ws (x + l + q) 0
      → b ≡ any (c - 64 * l) (λ t. ltb (bit u t) (bit s t)) → b ≡ stray_row ws x q c
  stray_late w b u s F z eu es e =
      let now : any (c - 64 * l) (λ t. ltb (bit u t) (bit s t)) ≡ pair_stray ws x q l (c - 64 * l) = rw (eu, es) in
      e ∙ now ∙ sym (split ∙ rw (F.none z))

pub stray_empty : (ws : List ℕ) (x q c : ℕ) → q ≡ planes c → q ≡ 0 → false ≡ stray_row ws x q c
unfolding stray_row any
stray_empty ws x q c e z =
    let n : c ≡ 0 = omega (arith, planes_room c) in
    rw n

-- a row of full words without a stray sign is legal
pub clean_legal : (ws : List ℕ) (x q : ℕ) → ((n : ℕ) → get_or ws n 0 < 2 ^ 64) → stray_row ws x q (64 * q) ≡ false → LegalRow ws x q q
unfolding stray_row LegalRow LegalPair
clean_legal ws x q fits h p l t = go (dec_lt t 64)
  where
    go : Dec (t < 64) → bit (get_or ws (x + q + p) 0) t ≤ bit (get_or ws (x + p) 0) t
    go (no k) = omega (arith, bit_high 64 (get_or ws (x + q + p) 0) t (fits (x + q + p)) (omega arith))
    go (yes k) =
        omega (
          arith,
          ltb-false (bit_at ws x (64 * p + t)) (bit_at ws (x + q) (64 * p + t)) (any_at (λ j. ltb (bit_at ws x j) (bit_at ws (x + q) j)) (64 * q) h (64 * p + t) (omega arith)),
          bit_at_word ws x p t k,
          bit_at_word ws (x + q) p t k,
        )

-- ---- padding

pub padded_full : (ws : List ℕ) (x q c : ℕ) → q ≡ planes c → c % 64 ≡ 0 → false ≡ padded_row ws x q c
unfolding padded_row any
padded_full ws x q c e z =
    let n : 64 * q - c ≡ 0 = omega (arith, planes_room c, planes_tight c) in
    rw n

pub padded_last : (ws : List ℕ) (x q c u s : ℕ) → q ≡ planes c → (c % 64 ≡ 0 → ⊥) → u ≡ get_or ws (x + (q - 1)) 0 → s ≡ get_or ws (x + (q - 1) + q) 0
    → any (64 - c % 64) (λ t. ltb 0 (digit u s (c % 64 + t))) ≡ padded_row ws x q c
unfolding padded_row column digit_at digit
padded_last ws x q c u s e ne eu es =
    let n : 64 * q - c ≡ 64 - c % 64 = omega (arith, planes_room c, planes_tight c) in
    rw n
    (any_cong (λ t. ltb 0 (digit u s (c % 64 + t))) (λ j. ltb 0 (column ws x q (c + j))) (64 - c % 64)
    (λ t l.
    let d : (c + t) / 64 ≡ q - 1 = omega (arith, planes_room c, planes_tight c) in
    let m : (c + t) % 64 ≡ c % 64 + t = omega arith in
    let a : x + q + (q - 1) ≡ x + (q - 1) + q = omega arith in
    rw (d, m, a, eu, es)))

-- ---- the first column of a fault

module _ (ws : List ℕ) (x q p u s : ℕ) (eu : u ≡ get_or ws (x + p) 0) (es : s ≡ get_or ws (x + p + q) 0) where
  abbrev lone : ℕ → Bool
  lone t = ltb (bit u t) (bit s t)

  abbrev along : ℕ → Bool
  along j = ltb (bit_at ws x j) (bit_at ws (x + q) j)

  at_place : (t : ℕ) → t < 64 → along (64 * p + t) ≡ lone t
  at_place t l =
      let e : x + q + p ≡ x + p + q = omega arith in
      rw (bit_at_word ws x p t l, bit_at_word ws (x + q) p t l, e, ← eu, ← es)

  -- no stray sign up to pair p, and none in it
  pub stray_next : stray_row ws x q (64 * p) ≡ false → any 64 lone ≡ false → stray_row ws x q (64 * (p + 1)) ≡ false
  unfolding stray_row
  stray_next h k =
      let e : 64 * (p + 1) ≡ 64 * p + 64 = omega arith in
      rw (e, any_split along (64 * p) 64, h) (any_none (λ t. along (64 * p + t)) 64 (λ t l. at_place t l ∙ any_at lone 64 k t l))

  -- none up to pair p, and one in it
  pub stray_here : (c : ℕ) → stray_row ws x q c ≡ true → stray_row ws x q (64 * p) ≡ false → any 64 lone ≡ true → 64 * p + least 64 lone ≡ stray_column ws x q c
  unfolding stray_row stray_column
  stray_here c h k e =
      let F : First 64 lone (least 64 lone) = least_first lone 64 e in
      let none : any (64 * p + least 64 lone) along ≡ false =
      rw (any_split along (64 * p) (least 64 lone), k) (any_none (λ t. along (64 * p + t)) (least 64 lone) (λ t l. at_place t (omega (arith, F.within)) ∙ any_at lone (least 64 lone) F.none t l)) in
      sym (least_of along c (64 * p + least 64 lone) h (at_place (least 64 lone) F.within ∙ F.holds) none)

pub stray_begin : (ws : List ℕ) (x q : ℕ) → stray_row ws x q (64 * 0) ≡ false
unfolding stray_row any
stray_begin ws x q = refl

-- a row with a fault has one in its words
pub stray_nowhere : (ws : List ℕ) (x q c : ℕ) → q ≡ planes c → stray_row ws x q c ≡ true → stray_row ws x q (64 * q) ≡ false → ⊥
stray_nowhere ws x q c e h k = true_false (stray_row ws x q c) h (stray_fewer ws x q c (64 * q) (omega (arith, planes_room c)) k)

-- pair p of a row at word x has a stray sign
abbrev pub stray_in_pair : List ℕ → ℕ → ℕ → ℕ → Bool
stray_in_pair ws x q p = any 64 (λ t. ltb (bit (get_or ws (x + p) 0) t) (bit (get_or ws (x + p + q) 0) t))

-- what a search says that finds the first such pair
abbrev pub FirstPair : List ℕ → ℕ → ℕ → Option ℕ → Type 0
FirstPair ws x q r =
    MatchOption r ((k : ℕ) → 0 ≤ k → k < q → stray_in_pair ws x q k ≡ false) (λ i. (0 ≤ i) × (i < q) × (stray_in_pair ws x q i ≡ true) × ((k : ℕ) → 0 ≤ k → k < i → stray_in_pair ws x q k ≡ false))

pub stray_before : (ws : List ℕ) (x q n : ℕ) → ((p : ℕ) → p < n → stray_in_pair ws x q p ≡ false) → stray_row ws x q (64 * n) ≡ false
stray_before ws x q zero none = stray_begin ws x q
stray_before ws x q (suc n) none =
    let e : suc n ≡ n + 1 = omega arith in
    rw e (stray_next ws x q n _ _ refl refl (stray_before ws x q n (λ p l. none p (omega arith))) (none n (omega arith)))

pub first_pair : (ws : List ℕ) (x q c : ℕ) → q ≡ planes c → stray_row ws x q c ≡ true → (r : Option ℕ) → FirstPair ws x q r → IsSome r
first_pair ws x q c e h r found = go r found
  where
    go : (r : Option ℕ) → FirstPair ws x q r → IsSome r
    go None none = absurd (stray_nowhere ws x q c e h (stray_before ws x q q (λ k l. none k (omega arith) l)))
    go (Some i) f = refl

pub padded_partly : (ws : List ℕ) (x q c : ℕ) → q ≡ planes c → padded_row ws x q c ≡ true → c % 64 ≡ 0 → ⊥
padded_partly ws x q c e h z = true_false (padded_row ws x q c) h (sym (padded_full ws x q c e z))

pub padded_some_word : (ws : List ℕ) (x q c : ℕ) → q ≡ planes c → padded_row ws x q c ≡ true → 0 < q
padded_some_word ws x q c e h = go q refl
  where
    go : (k : ℕ) → q ≡ k → 0 < k
    go zero z = absurd (padded_partly ws x q c e h (omega (arith, planes_room c)))
    go (suc k) z = omega arith

pub padded_first_lem : (ws : List ℕ) (x q c u s : ℕ) → q ≡ planes c → (c % 64 ≡ 0 → ⊥) → u ≡ get_or ws (x + (q - 1)) 0 → s ≡ get_or ws (x + (q - 1) + q) 0
    → 64 * (q - 1) + (c % 64 + least (64 - c % 64) (λ t. ltb 0 (digit u s (c % 64 + t)))) ≡ padded_column ws x q c
unfolding padded_column column digit_at digit
padded_first_lem ws x q c u s e ne eu es =
    let n : 64 * q - c ≡ 64 - c % 64 = omega (arith, planes_room c, planes_tight c) in
    let same : least (64 - c % 64) (λ t. ltb 0 (digit u s (c % 64 + t))) ≡ least (64 - c % 64) (λ j. ltb 0 (column ws x q (c + j))) =
    least_cong (λ t. ltb 0 (digit u s (c % 64 + t))) (λ j. ltb 0 (column ws x q (c + j))) (64 - c % 64)
    (λ t l.
    let d : (c + t) / 64 ≡ q - 1 = omega (arith, planes_room c, planes_tight c) in
    let m : (c + t) % 64 ≡ c % 64 + t = omega arith in
    let a : x + q + (q - 1) ≡ x + (q - 1) + q = omega arith in
    rw (d, m, a, eu, es)) in
    let front : 64 * (q - 1) + c % 64 ≡ c = omega (arith, planes_room c, planes_tight c) in
    rw (n, ← same) (omega (arith, front))
