-- The quote without a loop and the default width, as the code comes by them. Assumes nothing.
use mathlib.Core.Path.{◌≡◌, sym, ap}
use mathlib.Core.Bool.{Bool, true, false}
use Prim.Native.Nat.{ℕ, suc, ◌+◌, ◌-◌, ◌*◌, ◌/◌, ◌%◌, ◌≤◌, ◌<◌}
use native.Mathlib.Omega.{arith}
use borrow.Author.Tests.{lt-ltb, le-ltb}
use Rattle.steps.specs.Count.{block_quote, quote}
use Rattle.steps.specs.Width.{better, cheapest, default_width}
use Rattle.steps.proofs.Width.{quote_closed}

-- ---- blocks, and the columns that are left

module _ (m l k a b : ℕ) (pos : 0 < k) (ea : a ≡ block_quote m k) (eb : b ≡ block_quote m (l % k)) where
  pub quoted_is : l / k * a + b ≡ quote m l k
  quoted_is = rw (ea, eb) (sym (quote_closed m l k pos))

-- ---- the cheapest of the widths so far

module _ (f : ℕ → ℕ) (w k a b : ℕ) (ea : a ≡ f k) (eb : b ≡ f w) where
  pub better_new : a < b → k ≡ better f w k
  unfolding better
  better_new h = ap (λ (t : Bool). elim t [ true ↦ k | false ↦ w ]) (sym (lt-ltb (f k) (f w) (omega (arith, ea, eb, h))))

  pub better_old : b ≤ a → w ≡ better f w k
  unfolding better
  better_old h = ap (λ (t : Bool). elim t [ true ↦ k | false ↦ w ]) (sym (le-ltb (f k) (f w) (omega (arith, ea, eb, h))))

pub cheapest_next : (f : ℕ → ℕ) (k w v : ℕ) → 2 ≤ k → w ≡ cheapest f (k - 2) → v ≡ better f w k → v ≡ cheapest f (k + 1 - 2)
unfolding cheapest
cheapest_next f k w v h e q =
    let e₁ : k + 1 - 2 ≡ suc (k - 2) = omega arith in
    let e₂ : suc (suc (k - 2)) ≡ k = omega arith in
    rw (e₁, e₂, ← e) q

pub cheapest_all : (m l k w : ℕ) → k ≡ 9 → w ≡ cheapest (quote m l) (k - 2) → w ≡ default_width m l
unfolding default_width
cheapest_all m l k w e b = rw e at b
