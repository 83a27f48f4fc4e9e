-- The tests of a request over one matrix. Assumes nothing.
use mathlib.Core.Path.{◌≡◌}
use mathlib.Core.List.{List}
use Prim.Native.Nat.{ℕ, ◌≤◌}
use lib.ListN.{length}
use Rattle.cells.proofs.AnyLaws.{or_left, or_right}
use Rattle.requests.specs.declared.Size.{Size}
use Rattle.requests.specs.declared.Buffer.TheVariants.{First}
use Rattle.buffers.specs.Buffer.{words, Legal}
use Rattle.requests.specs.Answers.{first}
use Rattle.requests.specs.Sizes.{unfit}
use Rattle.requests.specs.Faults.{faults}
use Rattle.requests.specs.Single.{single_tests}
use Rattle.requests.proofs.SizeLaws.{over_rows, over_columns, unfit_long}
use Rattle.requests.specs.Exact.{None}
use Rattle.requests.proofs.AnswerLaws.{first_none}
use Rattle.requests.proofs.PairLaws.{faults_positive}
use Rattle.buffers.proofs.BufferLaws.{legal_tests}

-- what no test's holding says
pub record Ready (s t : Size) (a : List ℕ) (n : ℕ) : Type 0 where
  pub rows : s.rows ≤ 1024
  pub columns : s.columns ≤ 1024
  pub legal : Legal s.rows s.columns a
  pub room : n ≡ words t.rows t.columns

pub ready : (s t : Size) (a : List ℕ) (n : ℕ) → first (single_tests s t a n) ≡ 0 → Ready s t a n
unfolding single_tests faults
ready s t a n z =
    let h : None (single_tests s t a n) = first_none (single_tests s t a n) (faults_positive First s a) z in
    record {
      rows = over_rows s h.0;
      columns = over_columns s h.0;
      legal = legal_tests _ _ a (unfit_long s (length a) (or_left (unfit s (length a)) (unfit t n) h.1.0)) h.1.1.0 h.1.1.1.0;
      room = unfit_long t n (or_right (unfit s (length a)) (unfit t n) h.1.0);
    }
