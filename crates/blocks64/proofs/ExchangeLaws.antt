-- Pairs of words that exchange bits, one pair after another and one part after another. Assumes nothing.
use mathlib.Core.Path.{◌≡◌, refl, ap, ap₂, ◌∙◌}
use mathlib.Core.List.{List}
use Prim.Native.Nat.{ℕ, suc, ◌+◌, ◌*◌, ◌≤◌, ◌<◌}
use native.Mathlib.Nat.{suc-mul, add-mul, one-mul, mul-le-mul_right}
use native.Mathlib.Decide.{dec_lt}
use native.Mathlib.Omega.{arith}
use lib.ListN.{length, get_or, set, length-set}
use lib.Seq.{get_or-set_same, get_or-set_other}
use Rattle.blocks64.specs.Exchange.{lower, upper, Pairs, Stage}

-- ---- pairs

module _ (h m x : ℕ) (old : List ℕ) where
  pub pairs_none : Pairs h m x 0 old old
  pairs_none = record { long = refl; first = λ j l. absurd (omega arith); second = λ j l. absurd (omega arith); before = λ k l. refl; between = λ k a b. refl; after = λ k l. refl }

  pub pairs_next : (n : ℕ) (mid new : List ℕ) → n < h → x + (h + h) ≤ length old → Pairs h m x n old mid
      → new ≡ set (set mid (x + n) (lower h m (get_or mid (x + n) 0) (get_or mid (x + n + h) 0))) (x + n + h) (upper h m (get_or mid (x + n) 0) (get_or mid (x + n + h) 0))
      → Pairs h m x (n + 1) old new
  pairs_next n mid new l room P e = rw e (record {
    long = simp length-set P.long;
    first = λ j i. go1 j i (dec_lt j n);
    second = λ j i. go2 j i (dec_lt j n);
    before = λ k i. other k (λ d. omega arith) (λ d. omega arith) ∙ P.before k i;
    between = λ k i o. other k (λ d. omega arith) (λ d. omega arith) ∙ P.between k (omega arith) o;
    after = λ k i. other k (λ d. omega arith) (λ d. omega arith) ∙ P.after k (omega arith);
  })
    where
      u : ℕ
      u = lower h m (get_or mid (x + n) 0) (get_or mid (x + n + h) 0)

      s : ℕ
      s = upper h m (get_or mid (x + n) 0) (get_or mid (x + n + h) 0)

      other : (k : ℕ) → (k ≡ x + n + h → ⊥) → (k ≡ x + n → ⊥) → get_or (set (set mid (x + n) u) (x + n + h) s) k 0 ≡ get_or mid k 0
      other k a b = get_or-set_other (set mid (x + n) u) (x + n + h) k s 0 a ∙ get_or-set_other mid (x + n) k u 0 b

      long : length mid ≡ length old
      long = P.long

      still1 : get_or mid (x + n) 0 ≡ get_or old (x + n) 0
      still1 = P.between (x + n) (omega arith) (omega arith)

      still2 : get_or mid (x + n + h) 0 ≡ get_or old (x + h + n) 0
      still2 = let d : x + n + h ≡ x + h + n = omega arith in rw d (P.after (x + h + n) (omega arith))

      go1 : (j : ℕ) → j < n + 1 → Dec (j < n) → get_or (set (set mid (x + n) u) (x + n + h) s) (x + j) 0 ≡ lower h m (get_or old (x + j) 0) (get_or old (x + h + j) 0)
      go1 j i (yes k) = other (x + j) (λ d. omega arith) (λ d. omega arith) ∙ P.first j k
      go1 j i (no k) =
          let d : j ≡ n = omega arith in
          rw d (get_or-set_other (set mid (x + n) u) (x + n + h) (x + n) s 0 (λ d. omega arith) ∙ get_or-set_same mid (x + n) u 0 (omega arith) ∙ ap₂ (lower h m) still1 still2)

      go2 : (j : ℕ) → j < n + 1 → Dec (j < n) → get_or (set (set mid (x + n) u) (x + n + h) s) (x + h + j) 0 ≡ upper h m (get_or old (x + j) 0) (get_or old (x + h + j) 0)
      go2 j i (yes k) = other (x + h + j) (λ d. omega arith) (λ d. omega arith) ∙ P.second j k
      go2 j i (no k) =
          let d : j ≡ n = omega arith in
          let f : x + h + n ≡ x + n + h = omega arith in
          rw d (ap (λ (k : ℕ). get_or (set (set mid (x + n) u) (x + n + h) s) k 0) f ∙ get_or-set_same (set mid (x + n) u) (x + n + h) s 0 (simp length-set (omega arith)) ∙ ap₂ (upper h m) still1 still2)

-- ---- parts

pub part_ends : (d a b : ℕ) → a < b → a * d + d ≤ b * d
part_ends d a b l = let e : suc a * d ≤ b * d = mul-le-mul_right d l in omega (arith, suc-mul a d)

module _ (h m : ℕ) (old : List ℕ) where
  pub stage_none : Stage h m 0 old old
  stage_none = record { long = refl; first = λ k j l. absurd (omega arith); second = λ k j l. absurd (omega arith); after = λ i l. refl }

  pub stage_next : (n : ℕ) (mid new : List ℕ) → Stage h m n old mid → Pairs h m (n * (h + h)) h mid new → Stage h m (n + 1) old new
  stage_next n mid new S P = record {
    long = P.long ∙ S.long;
    first = λ k j l i. go1 k j l i (dec_lt k n);
    second = λ k j l i. go2 k j l i (dec_lt k n);
    after = λ i l.
        let e : (n + 1) * (h + h) ≡ n * (h + h) + (h + h) = add-mul n 1 (h + h) ∙ ap (λ (z : ℕ). n * (h + h) + z) (one-mul (h + h)) in
        P.after i (omega arith) ∙ S.after i (omega arith);
  }
    where
      still : (i : ℕ) → n * (h + h) ≤ i → get_or mid i 0 ≡ get_or old i 0
      still i l = S.after i l

      go1 : (k j : ℕ) → k < n + 1 → j < h → Dec (k < n) → get_or new (k * (h + h) + j) 0 ≡ lower h m (get_or old (k * (h + h) + j) 0) (get_or old (k * (h + h) + h + j) 0)
      go1 k j l i (yes a) = P.before (k * (h + h) + j) (omega (arith, part_ends (h + h) k n a)) ∙ S.first k j a i
      go1 k j l i (no a) =
          let e : k ≡ n = omega arith in
          rw e (P.first j i ∙ ap₂ (lower h m) (still (n * (h + h) + j) (omega arith)) (still (n * (h + h) + h + j) (omega arith)))

      go2 : (k j : ℕ) → k < n + 1 → j < h → Dec (k < n) → get_or new (k * (h + h) + h + j) 0 ≡ upper h m (get_or old (k * (h + h) + j) 0) (get_or old (k * (h + h) + h + j) 0)
      go2 k j l i (yes a) = P.before (k * (h + h) + h + j) (omega (arith, part_ends (h + h) k n a)) ∙ S.second k j a i
      go2 k j l i (no a) =
          let e : k ≡ n = omega arith in
          rw e (P.second j i ∙ ap₂ (upper h m) (still (n * (h + h) + j) (omega arith)) (still (n * (h + h) + h + j) (omega arith)))
