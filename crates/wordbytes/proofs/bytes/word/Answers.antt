use native.Mathlib.Omega.{arith}
use Rattle.wordbytes.proofs.ByteLaws.{eight_bytes}
use Rattle.wordbytes.proofs.bytes.word.Goals as goal

pub returns : goal.returns
returns c =
    let found = rw c.unwrap-eight.ensures at c.as_array.ensures.cases in
    omega (arith, eight_bytes c.args.bytes.now c.args.x _ c.unwrap-eight.result.now c.from_le_bytes.result (omega arith) found.same c.from_le_bytes.ensures)
