-- The place that goes with a fault is a faulty one, and the first by row and then column. Assumes nothing.
use mathlib.Core.Path.{◌≡◌, sym, ap, ◌∙◌}
use mathlib.Core.Bool.{Bool, true, false}
use mathlib.Core.List.{List}
use Prim.Native.Nat.{ℕ, ◌+◌, ◌-◌, ◌*◌, ◌≤◌}
use native.Mathlib.Omega.{arith}
use lib.Dec.{ltb}
use Rattle.cells.specs.Any.{any, least, First}
use Rattle.cells.proofs.AnyLaws.{any_at}
use Rattle.cells.proofs.LeastLaws.{least_first}
use Rattle.buffers.specs.Buffer.{planes, unit, sign, cell}
use Rattle.buffers.specs.Fault.{stray, padded, stray_at, padded_at, FirstBad}

pub stray_first_lem : (r c : ℕ) (ws : List ℕ) → stray r c ws ≡ true → FirstBad r 0 c (λ i j. ltb (unit c ws i j) (sign c ws i j)) (stray_at r c ws)
unfolding stray stray_at
stray_first_lem r c ws h =
    let bad : ℕ → ℕ → Bool = λ i j. ltb (unit c ws i j) (sign c ws i j) in
    let R : First r (λ i. any c (bad i)) (least r (λ i. any c (bad i))) = least_first (λ i. any c (bad i)) r h in
    let i = least r (λ i. any c (bad i)) in
    let J : First c (bad i) (least c (bad i)) = least_first (bad i) c R.holds in
    record {
      row = R.within;
      begins = omega arith;
      ends = J.within;
      holds = J.holds;
      above = λ k j l _ m. any_at (bad k) c (any_at (λ i. any c (bad i)) i R.none k l) j m;
      before = λ j _ l. any_at (bad i) (least c (bad i)) J.none j l;
    }

pub padded_first_lem : (r c : ℕ) (ws : List ℕ) → padded r c ws ≡ true → FirstBad r c (64 * planes c) (λ i j. ltb 0 (cell c ws i j)) (padded_at r c ws)
unfolding padded padded_at
padded_first_lem r c ws h =
    let n = 64 * planes c - c in
    let bad : ℕ → ℕ → Bool = λ i j. ltb 0 (cell c ws i (c + j)) in
    let R : First r (λ i. any n (bad i)) (least r (λ i. any n (bad i))) = least_first (λ i. any n (bad i)) r h in
    let i = least r (λ i. any n (bad i)) in
    let J : First n (bad i) (least n (bad i)) = least_first (bad i) n R.holds in
    let from : (k j : ℕ) → c ≤ j → bad k (j - c) ≡ false → ltb 0 (cell c ws k j) ≡ false =
    λ k j l e.
    let same : c + (j - c) ≡ j = omega arith in
    ap (λ (x : ℕ). ltb 0 (cell c ws k x)) (sym same) ∙ e in
    record {
      row = R.within;
      begins = omega arith;
      ends = omega (arith, J.within);
      holds = J.holds;
      above = λ k j l b m. from k j b (any_at (bad k) n (any_at (λ i. any n (bad i)) i R.none k l) (j - c) (omega arith));
      before = λ j b l. from i j b (any_at (bad i) (least n (bad i)) J.none (j - c) (omega arith));
    }
