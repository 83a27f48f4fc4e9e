use mathlib.Core.Path.{◌∙◌}
use Prim.Native.Nat.{◌+◌}
use lib.ListN.{length-take}
use Rattle.texts.specs.Multiply.{frames_of}
use Rattle.texts.proofs.LaidLaws.{roomy, cramped}
use Rattle.texts.proofs.TextLaws.{done_ok}
use Rattle.texts.proofs.FramesLaws.{header_written, frames_long, frames_laid}
use native.Mathlib.Omega.{arith}
use Rattle.texts.proofs.write.put_frames.Goals as goal

pub returns-then-out-end : goal.returns-then-out-end
returns-then-out-end c = cramped (frames_of c.args.within.size c.args.held.now c.args.total) c.args.out.now (omega (arith, frames_long c.args.within.size c.args.held.now c.args.total, c.lines_long-e.ensures.0))

pub unwrap-requires : goal.unwrap-requires
unwrap-requires c = done_ok _ (header_written c.args.within.size _ _ _ (omega (arith, c.args.within.few)) (omega (arith, c.args.within.narrow)) (length-take 9 c.args.out.now ∙ omega arith) c.write_header.ensures).0

pub returns : goal.returns
returns c =
    let lines = c.lines_long-e.ensures.0 in
    let long = frames_long c.args.within.size c.args.held.now c.args.total in
    let header = header_written c.args.within.size _ _ _ (omega (arith, c.args.within.few)) (omega (arith, c.args.within.narrow)) (length-take 9 c.args.out.now ∙ omega arith) c.write_header.ensures in
    roomy (frames_of c.args.within.size c.args.held.now c.args.total) c.args.out.now _ _ (omega (arith, long, lines)) (omega (arith, long, lines))
    (frames_laid c.args.within.size c.args.held.now c.args.total (9 + c.lines_long-e.result) c.args.out.now _ _ _ (omega (arith, lines)) header.1 c.put_rows.ensures c.put.ensures)
