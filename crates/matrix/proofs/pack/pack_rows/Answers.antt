use mathlib.Core.Path.{◌≡◌, ◌∙◌}
use Rattle.buffers.proofs.SizeLaws.{planes_le, words_le, row_fits}
use Rattle.rows.proofs.MatrixLaws.{rows_more}
use Rattle.matrix.specs.Pack.{pack_of}
use Rattle.matrix.proofs.GatherLaws.{between_below}
use Rattle.matrix.proofs.PackLaws.{cells_in, row_long, row_packed, packed_all}
use native.Mathlib.Omega.{arith}
use Rattle.matrix.proofs.pack.pack_rows.Goals as goal

pub overflow_mul-w : goal.overflow_mul-w
overflow_mul-w c = omega (arith, planes_le _ c.requires.1)

pub overflow_mul-x : goal.overflow_mul-x
overflow_mul-x c = omega (arith, row_fits _ _ c.loop-i.i _ _ c.planes-q.ensures c.requires.3 (omega arith), words_le _ _ c.requires.0 c.requires.1)

pub pack_row-requires : goal.pack_row-requires
pack_row-requires c =
    let long = row_long c.args.cells.now c.args.c c.loop-i.i (omega (arith, cells_in c.args.r c.args.c c.loop-i.i (omega arith))) in (
      rw long c.requires.1,
      rw long c.planes-q.ensures,
      row_fits _ _ c.loop-i.i _ _ c.planes-q.ensures (c.loop-i.invariant.len ∙ c.requires.3) (omega arith),
      between_below c.args.cells.now _ _ 3 c.requires.4,
    )

pub loop-i-preserved : goal.loop-i-preserved
loop-i-preserved c =
    rows_more _ _ _ _ _ _ c.loop-i.invariant (row_packed c.args.cells.now c.args.c c.loop-i.i (omega (arith, cells_in c.args.r c.args.c c.loop-i.i (omega arith))) _ _ _ _ c.pack_row.ensures)

pub returns : goal.returns
unfolding pack_of
returns c =
    let e : c.loop-i.i ≡ c.args.r = omega arith in
    packed_all _ _ _ _ _ c.planes-q.ensures (rw (e, c.requires.3) at c.loop-i.invariant)
