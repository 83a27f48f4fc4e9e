use mathlib.Core.Path.{◌∙◌}
use Prim.Native.Nat.{◌+◌, ◌*◌}
use lib.ListN.{length}
use Rattle.hexadecimal.specs.Line.{value_of}
use Rattle.hexadecimal.proofs.HexLaws.{part_digits, value_part}
use Rattle.hexadecimal.proofs.LineLaws.{filled_next}
use Rattle.frames.proofs.RowLineLaws.{row_read}
use native.Mathlib.Omega.{arith}
use Rattle.frames.proofs.row_line.read_words.Goals as goal

pub value-requires : goal.value-requires
value-requires c = part_digits c.args.line.now (c.loop-p.p * 16) 16 _ (omega arith) (omega (arith, c.requires.0)) (omega arith) (λ k l. c.requires.1 (c.loop-p.p * 16 + k) (omega arith))

pub loop-p-preserved : goal.loop-p-preserved
loop-p-preserved c =
    let is = c.value.ensures ∙ value_part c.args.line.now (c.loop-p.p * 16) 16 _ (omega arith) (omega (arith, c.requires.0)) in
    filled_next (λ p. value_of c.args.line.now (p * 16) 16) c.loop-p.p c.loop-p.words c.value.result (omega arith) is c.loop-p.invariant

pub returns : goal.returns
returns c = row_read (length c.args.words.now) c.args.line.now c.loop-p.words (omega arith) (λ i l. c.loop-p.invariant i (omega arith))
