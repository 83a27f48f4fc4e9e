use mathlib.Core.Path.{sym, ◌∙◌}
use lib.Pow.{pow_mono}
use lib.Seq.{length-take-le}
use Prim.Native.Nat.{◌^◌}
use Rattle.buffers.proofs.SizeLaws.{planes_le}
use Rattle.matrix.proofs.JobLaws.{table_long}
use Rattle.cface.proofs.LimitLaws.{words_small}
use native.Mathlib.Omega.{arith}
use Rattle.cface.proofs.product.own_table.Goals as goal

pub overflow_mul-room : goal.overflow_mul-room
overflow_mul-room c = omega (arith, c.planes.ensures, planes_le c.args.y.columns (omega (arith, c.requires.1)))

pub overflow_mul-room-2 : goal.overflow_mul-room-2
overflow_mul-room-2 c =
    omega (arith, table_long c.args.k c.args.y.columns c.planes.result (omega (arith, c.requires.0)) c.planes.ensures, words_small (2 ^ c.args.k) c.args.y.columns 128 (pow_mono c.requires.0) c.requires.1)

pub slice_bounds-result-end : goal.slice_bounds-result-end
slice_bounds-result-end c =
    sym (length-take-le _ c.args.room.now (omega (arith, table_long c.args.k c.args.y.columns c.planes.result (omega (arith, c.requires.0)) c.planes.ensures, words_small (2 ^ c.args.k) c.args.y.columns 128 (pow_mono c.requires.0) c.requires.1, c.requires.2)))

pub returns : goal.returns
returns c = sym (slice_bounds-result-end c) ∙ table_long c.args.k c.args.y.columns c.planes.result (omega (arith, c.requires.0)) c.planes.ensures
