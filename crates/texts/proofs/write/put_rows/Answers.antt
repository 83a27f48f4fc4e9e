use mathlib.Core.Path.{◌≡◌, refl, sym, ◌∙◌}
use Prim.Native.Nat.{◌+◌, ◌-◌, ◌*◌}
use lib.ListN.{length}
use Rattle.buffers.specs.Buffer.{joined}
use Rattle.texts.specs.MatrixText.{lines_of}
use Rattle.texts.specs.Multiply.{laid}
use Rattle.texts.proofs.LaidLaws.{laid_all}
use Rattle.texts.proofs.TextLaws.{done_ok, part_long, row_written, lines_long, lines_more, row_room, line_room}
use native.Mathlib.Omega.{arith}
use Rattle.texts.proofs.write.put_rows.Goals as goal

pub loop-i-init : goal.loop-i-init
unfolding lines_of laid joined
loop-i-init c = refl

pub slice_bounds-row-end : goal.slice_bounds-row-end
slice_bounds-row-end c =
    omega (arith, row_room c.loop-i.i c.args.within.size.rows c.args.within.size.columns c.wide-w.result (length c.args.held.now) c.wide-w.ensures.0 c.requires.0 (omega arith))

pub unwrap-requires : goal.unwrap-requires
unwrap-requires c =
    let row = row_room c.loop-i.i c.args.within.size.rows c.args.within.size.columns c.wide-w.result (length c.args.held.now) c.wide-w.ensures.0 c.requires.0 (omega arith) in
    let line = line_room c.loop-i.i c.args.within.size.rows c.args.within.size.columns c.line_long-line.result (length c.args.out.now) c.line_long-line.ensures.0 c.requires.1 (omega arith) in
    done_ok _ (row_written c.args.within.size.columns _ _ _ _ (omega (arith, c.args.within.narrow)) (part_long c.args.held.now _ _ _ (omega (arith, c.wide-w.ensures.0)) (omega (arith, row, c.wide-w.ensures.0))) (part_long c.loop-i.out _ _ _ (omega (arith, c.line_long-line.ensures.0)) (omega (arith, line, c.line_long-line.ensures.0))) c.write_row.ensures).0

pub loop-i-preserved : goal.loop-i-preserved
loop-i-preserved c =
    let row = row_room c.loop-i.i c.args.within.size.rows c.args.within.size.columns c.wide-w.result (length c.args.held.now) c.wide-w.ensures.0 c.requires.0 (omega arith) in
    let line = line_room c.loop-i.i c.args.within.size.rows c.args.within.size.columns c.line_long-line.result (length c.args.out.now) c.line_long-line.ensures.0 c.requires.1 (omega arith) in
    let k : c.loop-i.i * c.wide-w.result + c.wide-w.result - c.loop-i.i * c.wide-w.result ≡ c.wide-w.result = omega arith in
    let written = row_written c.args.within.size.columns _ _ _ _ (omega (arith, c.args.within.narrow)) (part_long c.args.held.now _ _ _ (omega (arith, c.wide-w.ensures.0)) (omega (arith, row, c.wide-w.ensures.0))) (part_long c.loop-i.out _ _ _ (omega (arith, c.line_long-line.ensures.0)) (omega (arith, line, c.line_long-line.ensures.0))) c.write_row.ensures in
    lines_more c.args.within.size.columns c.args.held.now c.loop-i.i c.wide-w.result c.line_long-line.result _ c.loop-i.out c.args.out.now c.write_row.new.line c.wide-w.ensures.0 c.line_long-line.ensures.0 (omega arith) c.loop-i.invariant (rw k at written.1)

pub returns : goal.returns
returns c =
    let e : c.loop-i.i ≡ c.args.within.size.rows = omega arith in
    rw e at c.loop-i.invariant ∙ laid_all (lines_of c.args.within.size.rows c.args.within.size.columns c.args.held.now) c.args.out.now (lines_long c.args.within.size.rows c.args.within.size.columns c.args.held.now ∙ sym c.requires.1)
