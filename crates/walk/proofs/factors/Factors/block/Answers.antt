use Rattle.steps.proofs.Loops.{blocks_within, width_pos, width_le, width_within}
use native.Mathlib.Omega.{arith}
use Rattle.walk.proofs.factors.Factors.block.Goals as goal

pub overflow_mul-result : goal.overflow_mul-result
overflow_mul-result c =
    let f = c.args.self.now in
    omega (arith, blocks_within f.a.columns f.width c.args.c f.some c.requires, f.a.few_columns)

pub invariant_of-result : goal.invariant_of-result
invariant_of-result c =
    let f = c.args.self.now in
    record {
      some = omega (arith, c.width.ensures, width_pos f.a.columns f.width c.args.c f.some c.requires);
      narrow = omega (arith, c.width.ensures, width_le f.a.columns f.width c.args.c);
      inside = omega (arith, c.width.ensures, width_within f.a.columns f.width c.args.c f.some c.requires);
    }
