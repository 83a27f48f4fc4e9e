use mathlib.Core.Path.{sym}
use Prim.Native.Nat.{◌+◌}
use Rattle.walk.specs.Factors.{matrix_of}
use Rattle.steps.specs.Count.{count_at}
use Rattle.steps.proofs.Loops.{blocks_within, width_pos, width_le, width_within}
use Rattle.cells.proofs.SumLaws.{sum_none}
use Rattle.walk.proofs.CountLaws.{place_more, place_small, last_still, place_all}
use native.Mathlib.Omega.{arith}
use Rattle.walk.proofs.factors.Packed.place.Goals as goal
use Rattle.walk.proofs.factors.Packed.place.Goals.{then-total-done, else-total-done}

pub blocks-b-end-requires : goal.blocks-b-end-requires
blocks-b-end-requires c = (c.args.self.now.few_columns, c.requires.0, c.requires.1)

pub loop-b-init : goal.loop-b-init
loop-b-init c = record {
  total = sym (sum_none (count_at c.args.self.now.rows c.args.self.now.columns c.args.k (matrix_of c.args.self.now)) 0);
  before = sym (sum_none (count_at c.args.self.now.rows c.args.self.now.columns c.args.k (matrix_of c.args.self.now)) 0);
  begun = omega arith;
  within = omega arith;
  last = λ b h l. absurd (omega arith);
}

pub overflow_mul-b : goal.overflow_mul-b
overflow_mul-b c = omega (arith, blocks_within c.args.self.now.columns c.args.k c.loop-b.b c.requires.0 (omega (arith, c.blocks-b-end.ensures)))

pub width-requires : goal.width-requires
width-requires c = (c.args.self.now.few_columns, c.requires.0, c.requires.1, omega (arith, c.blocks-b-end.ensures))

pub block_count-total-requires : goal.block_count-total-requires
block_count-total-requires c = (omega (arith, c.width.ensures, width_pos c.args.self.now.columns c.args.k c.loop-b.b c.requires.0 (omega (arith, c.blocks-b-end.ensures))), omega (arith, c.width.ensures, width_le c.args.self.now.columns c.args.k c.loop-b.b), omega (arith, c.width.ensures, width_within c.args.self.now.columns c.args.k c.loop-b.b c.requires.0 (omega (arith, c.blocks-b-end.ensures))))

pub overflow_add-total : goal.overflow_add-total
overflow_add-total c = omega (arith, place_small c.args.self.now.rows c.args.self.now.columns c.args.k (matrix_of c.args.self.now) (c.loop-b.b + 1) _ c.args.self.now.few_rows c.args.self.now.few_columns c.requires.1 (omega (arith, c.blocks-b-end.ensures)) (place_more c.args.self.now.rows c.args.self.now.columns c.args.k (matrix_of c.args.self.now) c.loop-b.b c.loop-b.total _ _ c.width.ensures c.loop-b.invariant.total c.block_count-total.ensures))

pub loop-b-preserved : goal.loop-b-preserved
loop-b-preserved c =
    let at = c.loop-b in
    let A = matrix_of c.args.self.now in
    let more = place_more c.args.self.now.rows c.args.self.now.columns c.args.k A at.b at.total _ _ c.width.ensures at.invariant.total c.block_count-total.ensures in
    elim c.if-total-done.branch [
      | then-total-done w ↦ record {
        total = more;
        before = rw (w.before-is, w.block-is) more;
        begun = omega (arith, w.before-is, w.if-total-done.true);
        within = omega (arith, w.block-is);
        last = λ b h l. absurd (omega (arith, w.block-is));
      }
      | else-total-done w ↦ record {
        total = more;
        before = rw (w.before-is, w.block-is) at.invariant.before;
        begun = omega (arith, w.before-is, at.invariant.begun);
        within = omega (arith, w.block-is, at.invariant.within);
        last = rw w.block-is (last_still c.args.self.now.rows c.args.self.now.columns c.args.k A c.args.done at.block at.b at.invariant.last (rw more at w.if-total-done.false));
      }
    ]

pub returns : goal.returns
returns c =
    let at = c.loop-b in
    let end = c.blocks-b-end.ensures in
    record {
      total_is = place_all c.args.self.now.rows c.args.self.now.columns c.args.k (matrix_of c.args.self.now) at.b _ (omega (arith, end)) at.invariant.total;
      before_is = at.invariant.before;
      begun = at.invariant.begun;
      within = omega (arith, end);
      last = λ b h l. at.invariant.last b (omega (arith, end)) h;
    }
