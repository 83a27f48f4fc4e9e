-- A row that is made in a buffer is a row that is put into the matrix it holds. Assumes nothing.
use mathlib.Core.Path.{◌≡◌, refl, sym, ap₂, ◌∙◌}
use mathlib.Core.Bool.{true, false}
use mathlib.Core.List.{List}
use Prim.Native.Nat.{ℕ, ◌+◌, ◌*◌, ◌≤◌, ◌<◌}
use native.Mathlib.Decide.{dec_lt}
use native.Mathlib.Omega.{arith}
use lib.Dec.{eqb}
use lib.ListN.{get_or}
use borrow.Author.Tests.{eq-eqb, ne_eqb}
use Rattle.cells.specs.Pair.{WordPair}
use Rattle.cells.proofs.PairLaws.{holds_self, holds_cong}
use Rattle.buffers.specs.Buffer.{planes, wide, cell, Legal, Words, encode}
use Rattle.buffers.proofs.BufferLaws.{word_legal}
use Rattle.rows.specs.Row.{digit_at, of2, Made}
use Rattle.rows.proofs.MatrixLaws.{rows_all, row_ends, cell_digit}
use Rattle.steps.specs.Matrix.{Row}
use Rattle.steps.specs.Step.{put}
use Rattle.steps.proofs.Running.{put_same, put_other}

module _ (r c i q : ℕ) (old new : List ℕ) (f : ℕ → ℕ → ℕ) (g : Row) (e : q ≡ planes c) (L : Legal r c old) (fits : Words old) (h : i < r) (M : Made f (i * (2 * q)) q q old new)
    (real : (p t : ℕ) → p < planes c → t < 64 → 64 * p + t < c → f p t ≡ g (64 * p + t)) (pad : (p t : ℕ) → p < planes c → t < 64 → c ≤ 64 * p + t → f p t ≡ 0) where
  -- the digits of the new buffer, word by word
  all : ℕ → ℕ → ℕ → ℕ
  all k p t = elim (eqb k i) [ true ↦ f p t | false ↦ digit_at old (k * (2 * q)) q p t ]

  all_row : (p t : ℕ) → all i p t ≡ f p t
  unfolding all
  all_row p t = rw (eq-eqb i i refl, all)

  all_other : (k p t : ℕ) → (k ≡ i → ⊥) → all k p t ≡ digit_at old (k * (2 * q)) q p t
  unfolding all
  all_other k p t ne = rw (ne_eqb k i ne, all)

  same_word : (k x : ℕ) → (k ≡ i → ⊥) → x < q + q → get_or new (k * (2 * q) + x) 0 ≡ get_or old (k * (2 * q) + x) 0
  same_word k x ne l = go (dec_lt k i)
    where
      go : Dec (k < i) → get_or new (k * (2 * q) + x) 0 ≡ get_or old (k * (2 * q) + x) 0
      go (yes a) = M.before (k * (2 * q) + x) (omega (arith, row_ends q k i a))
      go (no a) = M.after (k * (2 * q) + x) (omega (arith, row_ends q i k (omega arith)))

  pairs : (k p : ℕ) → k < r → p < q → WordPair (all k p) (get_or new (k * (2 * q) + p) 0) (get_or new (k * (2 * q) + q + p) 0)
  unfolding digit_at wide
  pairs k p l m = go (dec_lt k i) (dec_lt i k)
    where
      kept : (k ≡ i → ⊥) → WordPair (all k p) (get_or new (k * (2 * q) + p) 0) (get_or new (k * (2 * q) + q + p) 0)
      kept ne =
          let d : k * (2 * q) + q + p ≡ k * (2 * q) + (q + p) = omega arith in
          rw (same_word k p ne (omega arith), d, same_word k (q + p) ne (omega arith), ← d)
          (record {
            holds = holds_cong (λ t. sym (all_other k p t ne)) (holds_self _ _ (rw (← e) at (word_legal r c old L fits k p l (omega arith))));
            unit_fits = fits (k * (2 * q) + p);
            sign_fits = fits (k * (2 * q) + q + p);
          })

      go : Dec (k < i) → Dec (i < k) → WordPair (all k p) (get_or new (k * (2 * q) + p) 0) (get_or new (k * (2 * q) + q + p) 0)
      go (yes a) b = kept (λ d. omega arith)
      go (no a) (yes b) = kept (λ d. omega arith)
      go (no a) (no b) =
          let d : k ≡ i = omega arith in
          rw d (record { holds = holds_cong (λ t. sym (all_row p t)) (M.made p m).holds; unit_fits = (M.made p m).unit_fits; sign_fits = (M.made p m).sign_fits })

  digits_real : (k p t : ℕ) → k < r → p < planes c → t < 64 → 64 * p + t < c → all k p t ≡ put (cell c old) i g k (64 * p + t)
  digits_real k p t l m b a = go (dec_lt k i) (dec_lt i k)
    where
      other : (k ≡ i → ⊥) → all k p t ≡ put (cell c old) i g k (64 * p + t)
      other ne = all_other k p t ne ∙ (rw e (cell_digit c k p t old b)) ∙ sym (put_other (cell c old) i g k (64 * p + t) ne)

      go : Dec (k < i) → Dec (i < k) → all k p t ≡ put (cell c old) i g k (64 * p + t)
      go (yes x) y = other (λ d. omega arith)
      go (no x) (yes y) = other (λ d. omega arith)
      go (no x) (no y) = let d : k ≡ i = omega arith in rw d (all_row p t ∙ real p t m b a ∙ sym (put_same (cell c old) i g (64 * p + t)))

  digits_pad : (k p t : ℕ) → k < r → p < planes c → t < 64 → c ≤ 64 * p + t → all k p t ≡ 0
  digits_pad k p t l m b a = go (dec_lt k i) (dec_lt i k)
    where
      other : (k ≡ i → ⊥) → all k p t ≡ 0
      other ne = all_other k p t ne ∙ (rw e (cell_digit c k p t old b)) ∙ L.clear k (64 * p + t) l a (omega arith)

      go : Dec (k < i) → Dec (i < k) → all k p t ≡ 0
      go (yes x) y = other (λ d. omega arith)
      go (no x) (yes y) = other (λ d. omega arith)
      go (no x) (no y) = let d : k ≡ i = omega arith in rw d (all_row p t ∙ pad p t m b a)

  pub row_put : new ≡ encode r c (put (cell c old) i g)
  row_put = rows_all all (put (cell c old) i g) q r c new e digits_real digits_pad (record { len = M.long ∙ L.long; made = pairs })

-- row i becomes what op makes of row i₁ of s₁ and row i₂ of s₂
pub op_put : (op : ℕ → ℕ → ℕ) → op 0 0 ≡ 0 → (r c i q : ℕ) (old : List ℕ) (r₁ i₁ : ℕ) (s₁ : List ℕ) (r₂ i₂ : ℕ) (s₂ new : List ℕ)
    → q ≡ planes c → Legal r c old → Words old → Legal r₁ c s₁ → Legal r₂ c s₂ → i < r → i₁ < r₁ → i₂ < r₂
    → Made (of2 op q s₁ (i₁ * (2 * q)) s₂ (i₂ * (2 * q))) (i * (2 * q)) q q old new
    → new ≡ encode r c (put (cell c old) i (λ j. op (cell c s₁ i₁ j) (cell c s₂ i₂ j)))
unfolding of2
op_put op z r c i q old r₁ i₁ s₁ r₂ i₂ s₂ new e L fits L₁ L₂ h h₁ h₂ M =
    row_put r c i q old new (of2 op q s₁ (i₁ * (2 * q)) s₂ (i₂ * (2 * q))) (λ j. op (cell c s₁ i₁ j) (cell c s₂ i₂ j)) e L fits h M
    (rw e (λ p t m k l. ap₂ op (cell_digit c i₁ p t s₁ k) (cell_digit c i₂ p t s₂ k)))
    (rw e
    (λ p t m k l.
    ap₂ op (cell_digit c i₁ p t s₁ k ∙ L₁.clear i₁ (64 * p + t) h₁ l (omega arith)) (cell_digit c i₂ p t s₂ k ∙ L₂.clear i₂ (64 * p + t) h₂ l (omega arith)) ∙ z))
