-- The tests of `scaling`. Assumes nothing.
use mathlib.Core.Path.{◌≡◌}
use mathlib.Core.List.{List}
use Prim.Native.Nat.{ℕ, ◌≤◌, ◌<◌}
use native.Mathlib.Omega.{arith}
use lib.ListN.{length}
use borrow.Author.Tests.{ltb-false}
use Rattle.cells.proofs.AnyLaws.{or_left, or_right}
use Rattle.buffers.specs.Buffer.{words, Legal}
use Rattle.buffers.proofs.BufferLaws.{legal_tests}
use Rattle.requests.specs.declared.Size.{Size}
use Rattle.requests.specs.Answers.{first}
use Rattle.requests.specs.Sizes.{unfit}
use Rattle.requests.specs.Faults.{faults}
use Rattle.requests.proofs.SizeLaws.{over_rows, over_columns, unfit_long}
use Rattle.requests.specs.Exact.{None}
use Rattle.requests.specs.declared.Buffer.TheVariants.{First}
use Rattle.requests.proofs.PairLaws.{faults_positive}
use Rattle.requests.proofs.AnswerLaws.{first_none}
use Rattle.matrix.specs.Scaling.{scaling_tests}

-- what no test's holding says
pub record Ready (s : Size) (d : ℕ) (a : List ℕ) (n : ℕ) : Type 0 where
  pub rows : s.rows ≤ 1024
  pub columns : s.columns ≤ 1024
  pub digit : d < 3
  pub legal : Legal s.rows s.columns a
  pub room : n ≡ words s.rows s.columns

pub ready : (s : Size) (d : ℕ) (a : List ℕ) (n : ℕ) → first (scaling_tests s d a n) ≡ 0 → Ready s d a n
unfolding scaling_tests faults
ready s d a n z =
    let t : None (scaling_tests s d a n) = first_none (scaling_tests s d a n) (faults_positive First s a) z in
    let h : d ≤ 2 = ltb-false 2 d t.1.1.0 in
    record {
      rows = over_rows s t.0;
      columns = over_columns s t.0;
      digit = omega arith;
      legal = legal_tests _ _ a (unfit_long s (length a) (or_left (unfit s (length a)) (unfit s n) t.1.0)) t.1.1.1.0 t.1.1.1.1.0;
      room = unfit_long s n (or_right (unfit s (length a)) (unfit s n) t.1.0);
    }
