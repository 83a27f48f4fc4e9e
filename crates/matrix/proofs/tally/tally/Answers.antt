use Rattle.std.proofs.Common.{rules}
use borrow.Author.Tests.{eq-eqb, ne_eqb}
use mathlib.Core.Path.{◌≡◌, sym, ap, ◌∙◌}
use mathlib.Core.Bool.{Bool, ◌&&◌}
use mathlib.Core.List.{List}
use Prim.Native.Nat.{ℕ}
use lib.Dec.{eqb}
use lib.ListN.{get_or}
use Rattle.buffers.proofs.BufferLaws.{legal_tests}
use Rattle.requests.specs.Faults.{faults}
use Rattle.requests.proofs.SizeLaws.{over_columns, unfit_long}
use Rattle.requests.specs.Exact.{None}
use Rattle.requests.specs.declared.Buffer.TheVariants.{First}
use Rattle.requests.proofs.PairLaws.{faults_positive}
use Rattle.requests.proofs.AnswerLaws.{first_none, finished}
use Rattle.requests.proofs.WordLaws.{refused_by}
use Rattle.rows.specs.Tally.{tally_row}
use Rattle.matrix.specs.Check.{check_tests, check_means}
use Rattle.matrix.specs.Tally.{balanced, tally_means}
use Rattle.matrix.proofs.TallyLaws.{row_zero, tally_cells}
use native.Mathlib.Omega.{arith}
use Rattle.matrix.proofs.tally.tally.Goals as goal

abbrev equal_counts : List ℕ → Bool
equal_counts l = eqb (get_or l 0 0) (get_or l 1 0) && eqb (get_or l 1 0) (get_or l 2 0)

pub returns-in_err-check : goal.returns-in_err-check
unfolding tally_means check_means
returns-in_err-check c = search (rules, refused_by)

pub planes-requires : goal.planes-requires
unfolding check_means check_tests faults
planes-requires c =
    let t : None (check_tests (record { rows = 1; columns = c.args.columns }) c.args.a.now) = first_none (check_tests (record { rows = 1; columns = c.args.columns }) c.args.a.now) (faults_positive First (record { rows = 1; columns = c.args.columns }) c.args.a.now) (sym c.in_ok-check.ensures) in
    over_columns _ t.0

pub tally-counts-requires : goal.tally-counts-requires
unfolding check_means check_tests faults
tally-counts-requires c =
    let t : None (check_tests (record { rows = 1; columns = c.args.columns }) c.args.a.now) = first_none (check_tests (record { rows = 1; columns = c.args.columns }) c.args.a.now) (faults_positive First (record { rows = 1; columns = c.args.columns }) c.args.a.now) (sym c.in_ok-check.ensures) in
    (c.planes.ensures, over_columns _ t.0, row_zero _ _ _ c.planes.ensures (legal_tests 1 c.args.columns c.args.a.now (unfit_long _ _ t.1.0) t.1.1.0 t.1.1.1.0) (λ n. omega (arith, c.type_inv.a n)))

pub returns-then-counts : goal.returns-then-counts
unfolding tally_means check_means tally_row balanced
returns-then-counts c =
    let given = c.args in
    let counts = c.tally-counts.result in
    let e = c.tally-counts.ensures ∙ tally_cells given.columns _ given.a.now c.planes.ensures in
    let even : eqb (get_or counts 1 0) (get_or counts 2 0) ≡ equal_counts counts = simp (eq-eqb _ _ c.if-counts.true) in
    finished _ _ _ _ (sym c.in_ok-check.ensures) (ap (λ (b : Bool). (counts, b)) even ∙ ap (λ (l : List ℕ). (l, equal_counts l)) e)

pub returns-else-counts : goal.returns-else-counts
unfolding tally_means check_means tally_row balanced
returns-else-counts c =
    let given = c.args in
    let counts = c.tally-counts.result in
    let e = c.tally-counts.ensures ∙ tally_cells given.columns _ given.a.now c.planes.ensures in
    let uneven : eqb (get_or counts 0 0) (get_or counts 1 0) ≡ equal_counts counts = simp (ne_eqb _ _ c.if-counts.false) in
    finished _ _ _ _ (sym c.in_ok-check.ensures) (ap (λ (b : Bool). (counts, b)) uneven ∙ ap (λ (l : List ℕ). (l, equal_counts l)) e)
