use mathlib.Core.Path.{refl, ap}
use mathlib.Core.List.{List}
use Prim.Native.Nat.{ℕ, ◌*◌, min}
use lib.ListN.{get_or}
use Rattle.cells.proofs.CountLaws.{count_le}
use Rattle.buffers.proofs.SizeLaws.{planes_tight}
use Rattle.rows.specs.Row.{column}
use Rattle.rows.specs.Tally.{tally_row}
use Rattle.rows.proofs.RowLaws.{load_legal}
use Rattle.rows.proofs.TallyLaws.{tally_none, tally_more, tally_all, columns_le}
use native.Mathlib.Omega.{arith}
use Rattle.rows.proofs.tally.tally.Goals as goal

pub loop-p-init : goal.loop-p-init
loop-p-init c = (tally_none _ _ _ _ c.requires.0 0, tally_none _ _ _ _ c.requires.0 1, tally_none _ _ _ _ c.requires.0 2)

pub real-requires : goal.real-requires
real-requires c = (c.requires.1, omega (arith, planes_tight c.args.c))

pub low-mask-requires : goal.low-mask-requires
low-mask-requires c = (omega (arith, c.real.ensures, planes_tight c.args.c), omega (arith, c.real.ensures))

pub counts-n-requires : goal.counts-n-requires
counts-n-requires c = load_legal c.args.a.now c.args.x c.args.q c.args.q c.loop-p.p _ _ _ c.requires.2.legal (omega arith) refl c.load.ensures.0 c.load.ensures.1

pub overflow_add-zeros : goal.overflow_add-zeros
overflow_add-zeros c = omega (arith, (ap (λ (l : List ℕ). get_or l 0 0) c.counts-n.ensures), count_le 0 c.load.result.unit c.load.result.sign c.low-mask.result, columns_le 0 (column c.args.a.now c.args.x c.args.q) (min c.args.c (64 * c.loop-p.p)), c.loop-p.invariant.0, c.requires.1)

pub overflow_add-ones : goal.overflow_add-ones
overflow_add-ones c = omega (arith, (ap (λ (l : List ℕ). get_or l 1 0) c.counts-n.ensures), count_le 1 c.load.result.unit c.load.result.sign c.low-mask.result, columns_le 1 (column c.args.a.now c.args.x c.args.q) (min c.args.c (64 * c.loop-p.p)), c.loop-p.invariant.1, c.requires.1)

pub overflow_add-twos : goal.overflow_add-twos
overflow_add-twos c = omega (arith, (ap (λ (l : List ℕ). get_or l 2 0) c.counts-n.ensures), count_le 2 c.load.result.unit c.load.result.sign c.low-mask.result, columns_le 2 (column c.args.a.now c.args.x c.args.q) (min c.args.c (64 * c.loop-p.p)), c.loop-p.invariant.2, c.requires.1)

pub loop-p-preserved : goal.loop-p-preserved
loop-p-preserved c = (
  tally_more _ _ _ _ c.requires.0 0 c.loop-p.p c.load.result.unit c.load.result.sign c.real.result c.low-mask.result c.loop-p.zeros _ (omega arith) c.real.ensures c.low-mask.ensures c.load.ensures.0 c.load.ensures.1 c.loop-p.invariant.0 (ap (λ (l : List ℕ). get_or l 0 0) c.counts-n.ensures),
  tally_more _ _ _ _ c.requires.0 1 c.loop-p.p c.load.result.unit c.load.result.sign c.real.result c.low-mask.result c.loop-p.ones _ (omega arith) c.real.ensures c.low-mask.ensures c.load.ensures.0 c.load.ensures.1 c.loop-p.invariant.1 (ap (λ (l : List ℕ). get_or l 1 0) c.counts-n.ensures),
  tally_more _ _ _ _ c.requires.0 2 c.loop-p.p c.load.result.unit c.load.result.sign c.real.result c.low-mask.result c.loop-p.twos _ (omega arith) c.real.ensures c.low-mask.ensures c.load.ensures.0 c.load.ensures.1 c.loop-p.invariant.2 (ap (λ (l : List ℕ). get_or l 2 0) c.counts-n.ensures),
)

pub returns : goal.returns
unfolding tally_row
returns c =
    rw (
      tally_all c.args.a.now c.args.x _ c.args.c c.requires.0 0 c.loop-p.p _ (omega arith) c.loop-p.invariant.0,
      tally_all c.args.a.now c.args.x _ c.args.c c.requires.0 1 c.loop-p.p _ (omega arith) c.loop-p.invariant.1,
      tally_all c.args.a.now c.args.x _ c.args.c c.requires.0 2 c.loop-p.p _ (omega arith) c.loop-p.invariant.2,
    )
