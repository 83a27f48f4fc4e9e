use mathlib.Core.Path.{refl}
use Rattle.steps.specs.Step.{row_step}
use Rattle.walk.proofs.PieceLaws.{piece_none, piece_skipped, piece_spent, piece_made}
use Prim.Native.Nat.{◌-◌}
use native.Mathlib.Omega.{arith}
use Rattle.walk.proofs.piece.piece.Goals as goal

pub returns-then-x-eq0 : goal.returns-then-x-eq0
returns-then-x-eq0 g c =
    let f = c.args.factors.now in
    let done = piece_none f.width f.a.rows f.b.columns (row_step c.args.i g.row.D) c.args.x c.args.left c.args.left _ _ _ c.if-x-eq0.true refl refl c.requires.0.table (λ n. omega (arith, c.type_inv.table n)) c.requires.0.product (λ n. omega (arith, c.type_inv.product n)) in
    record { spent = done.0; ran = done.1 }

pub returns-then-left-ne0 : goal.returns-then-left-ne0
returns-then-left-ne0 g c =
    let f = c.args.factors.now in
    let done = piece_skipped f.width f.a.rows f.b.columns (row_step c.args.i g.row.D) c.args.x c.args.left (record { skip = c.args.left.skip - 1; budget = c.args.left.budget }) _ _ _ (omega arith) (omega arith) refl refl refl c.requires.0.table (λ n. omega (arith, c.type_inv.table n)) c.requires.0.product (λ n. omega (arith, c.type_inv.product n)) in
    record { spent = done.0; ran = done.1 }

pub returns-then-left-eq0 : goal.returns-then-left-eq0
returns-then-left-eq0 g c =
    let f = c.args.factors.now in
    let done = piece_spent f.width f.a.rows f.b.columns (row_step c.args.i g.row.D) c.args.x c.args.left c.args.left _ _ _ (omega arith) c.if-left-ne0.false c.if-left-eq0.true refl refl c.requires.0.table (λ n. omega (arith, c.type_inv.table n)) c.requires.0.product (λ n. omega (arith, c.type_inv.product n)) in
    record { spent = done.0; ran = done.1 }

pub returns : goal.returns
returns g c =
    let f = c.args.factors.now in
    let done = piece_made f.width f.a.rows f.b.columns (row_step c.args.i g.row.D) c.args.x c.args.left (record { skip = 0; budget = c.args.left.budget - 1 }) _ _ _ (omega arith) c.if-left-ne0.false (omega arith) refl refl c.row_step.ensures in
    record { spent = done.0; ran = done.1 }
