-- The better of the cheapest so far and one more width is the cheapest with it. Assumes nothing.
use mathlib.Core.Path.{◌≡◌, refl}
use mathlib.Core.Bool.{Bool, true, false}
use mathlib.Core.Logic.{inl, inr}
use Prim.Native.Nat.{ℕ, suc, ◌≤◌, ◌<◌}
use native.Mathlib.Omega.{arith}
use native.Mathlib.Nat.{le_refl, eq-or-lt_of_le}
use lib.Dec.{ltb, ltb→lt, nltb→le}
use Rattle.steps.specs.Width.{better, Cheapest}

-- one more to choose from
pub better_is : (f : ℕ → ℕ) (n w : ℕ) → Cheapest f n w → Cheapest f (suc n) (better f w (suc n))
unfolding better
better_is f n w C = go (ltb (f (suc n)) (f w)) refl
  where
    go : (b : Bool) → ltb (f (suc n)) (f w) ≡ b → Cheapest f (suc n) (elim b [ true ↦ suc n | false ↦ w ])
    go true e =
        let less : f (suc n) < f w = ltb→lt _ _ (rw e tt) in
        record {
          from = omega arith;
          to = le_refl _;
          lowest = λ k a b. elim (eq-or-lt_of_le b) [ inl q ↦ rw q (le_refl _) | inr q ↦ omega (arith, less, C.lowest k a (omega arith)) ];
          first = λ k a b. omega (arith, less, C.lowest k a (omega arith));
        }
    go false e =
        let more : f w ≤ f (suc n) = nltb→le _ _ (rw e tt) in
        record {
          from = C.from;
          to = omega (arith, C.to);
          lowest = λ k a b. elim (eq-or-lt_of_le b) [ inl q ↦ rw q more | inr q ↦ C.lowest k a (omega arith) ];
          first = C.first;
        }
