use Rattle.std.proofs.Common.{rules}
use denote.Param.Always.{mut_by}
use Rattle.rows.specs.Row.{Readable}
use Rattle.bench.proofs.row_steps.accumulations.Goals as goal

pub repeat-requires : goal.repeat-requires
repeat-requires g c =
    mut_by _ (λ f. Readable f.2.now f.2.now 0 f.0.now × Readable f.2.now f.2.now 0 f.1.now) (λ s a i. (i.0, i.1, search rules)) (λ s a r t i e. search rules) _ (search rules, search rules)
