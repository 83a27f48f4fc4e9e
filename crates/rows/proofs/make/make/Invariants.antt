use Rattle.std.proofs.Common.{ℕ, ◌≡◌, ◌-◌, ◌%◌, ◌≤◌}
use Rattle.rows.specs.Row.{Made, Gives}
use Rattle.rows.proofs.make.make.Given as goal

abbrev pub invariant-loop-j : goal.invariant-loop-j
invariant-loop-j g l = (l.j ≤ l.end) × (l.j % 4 ≡ 0) × ((f : ℕ → ℕ → ℕ) → Gives (goal.F-post g l.rule) l.q f → Made f l.x l.q l.j l.initial.out l.out)

abbrev pub decreases-loop-j : goal.decreases-loop-j
decreases-loop-j g l = l.end - l.j
