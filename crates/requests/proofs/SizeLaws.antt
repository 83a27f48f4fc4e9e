-- Sizes within the limit. Assumes nothing.
use mathlib.Core.Path.{◌≡◌}
use mathlib.Core.Bool.{false}
use Prim.Native.Nat.{ℕ, ◌≤◌}
use lib.Dec.{ltb, eqb}
use borrow.Author.Tests.{ltb-false, le-ltb, eqb-true, eq-eqb, not-false}
use Rattle.cells.proofs.AnyLaws.{or_left, or_right}
use Rattle.buffers.specs.Buffer.{words}
use Rattle.requests.specs.declared.Size.{Size}
use Rattle.requests.specs.Sizes.{over, unfit}

pub over_rows : (s : Size) → over s ≡ false → s.rows ≤ 1024
unfolding over
over_rows s h = ltb-false 1024 s.rows (or_left (ltb 1024 s.rows) (ltb 1024 s.columns) h)

pub over_columns : (s : Size) → over s ≡ false → s.columns ≤ 1024
unfolding over
over_columns s h = ltb-false 1024 s.columns (or_right (ltb 1024 s.rows) (ltb 1024 s.columns) h)

pub not_over : (s : Size) → s.rows ≤ 1024 → s.columns ≤ 1024 → over s ≡ false
unfolding over
not_over s h l = rw (le-ltb 1024 s.rows h, le-ltb 1024 s.columns l)

pub unfit_long : (s : Size) (n : ℕ) → unfit s n ≡ false → n ≡ words s.rows s.columns
unfolding unfit
unfit_long s n h = eqb-true n (words s.rows s.columns) (not-false (eqb n (words s.rows s.columns)) h)

pub not_unfit : (s : Size) (n : ℕ) → n ≡ words s.rows s.columns → unfit s n ≡ false
unfolding unfit
not_unfit s n e = rw (eq-eqb n (words s.rows s.columns) e)
