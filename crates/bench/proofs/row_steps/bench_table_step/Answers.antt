use Rattle.std.proofs.Common.{◌≡◌, ◌*◌, ◌≤◌, length, refl, rules, arith}
use denote.Param.Always.{mut_by}
use Rattle.rows.specs.Row.{Readable}
use Rattle.bench.proofs.row_steps.bench_table_step.Goals as goal

pub repeat-requires : goal.repeat-requires
repeat-requires c =
    mut_by _ (λ f. (f.3.now ≡ 2 * f.2.now) × (4 * f.2.now ≤ length f.0.now) × Readable f.2.now f.2.now 0 f.0.now × Readable f.2.now f.2.now 0 f.1.now) (λ s a i. search rules) (λ s a r t i e. search rules) _
    (refl, omega arith, search rules, search rules)
