use Rattle.std.proofs.Common.{rules}
use mathlib.Core.Path.{sym, ap₂, ◌∙◌}
use mathlib.Core.List.{List}
use Prim.Native.Nat.{ℕ}
use lib.ListN.{length}
use Rattle.requests.proofs.AnswerLaws.{finished}
use Rattle.requests.proofs.WordLaws.{refused_by}
use Rattle.requests.proofs.SizeLaws.{not_over}
use Rattle.matrix.specs.Product.{end_of, product_means}
use Rattle.matrix.proofs.JobLaws.{meant_pos, meant_le, opening_ready}
use native.Mathlib.Omega.{arith}
use Rattle.matrix.proofs.product.product.Goals as goal

pub returns-in_err-judged : goal.returns-in_err-judged
unfolding product_means
returns-in_err-judged c = search (rules, refused_by)

pub new-requires : goal.new-requires
new-requires c =
    let r = opening_ready c.args.x c.args.y c.args.width c.args.a.now c.args.b.now (length c.args.table.now) (length c.args.product.now) (sym c.in_ok-judged.ensures) in
    (r.m, r.l, r.left)

pub new-requires-2 : goal.new-requires-2
new-requires-2 c =
    let r = opening_ready c.args.x c.args.y c.args.width c.args.a.now c.args.b.now (length c.args.table.now) (length c.args.product.now) (sym c.in_ok-judged.ensures) in
    (r.l, r.n, r.right)

pub meant-requires : goal.meant-requires
meant-requires c =
    let r = opening_ready c.args.x c.args.y c.args.width c.args.a.now c.args.b.now (length c.args.table.now) (length c.args.product.now) (sym c.in_ok-judged.ensures) in
    not_over _ r.m r.l

pub invariant_of-factors : goal.invariant_of-factors
invariant_of-factors c =
    let r = opening_ready c.args.x c.args.y c.args.width c.args.a.now c.args.b.now (length c.args.table.now) (length c.args.product.now) (sym c.in_ok-judged.ensures) in record {
      joined = c.new.ensures.1 ∙ sym c.new-2.ensures.0;
      some = omega (arith, c.meant.ensures, meant_pos c.args.x c.args.width);
      narrow = omega (arith, c.meant.ensures, meant_le c.args.x c.args.width r.width);
    }

pub multiplied-requires : goal.multiplied-requires
multiplied-requires c =
    let r = opening_ready c.args.x c.args.y c.args.width c.args.a.now c.args.b.now (length c.args.table.now) (length c.args.product.now) (sym c.in_ok-judged.ensures) in
    (rw (c.meant.ensures, c.new-2.ensures.1) r.table, rw (c.new.ensures.0, c.new-2.ensures.1) r.product)

pub returns : goal.returns
unfolding product_means end_of
returns c =
    let left = c.new.ensures in
    let right = c.new-2.ensures in
    finished _ _ _ _ (sym c.in_ok-judged.ensures)
    (ap₂ (λ (t p : List ℕ). (t, p)) (rw (c.meant.ensures, left.0, left.1, left.2, right.1, right.2) at c.multiplied.ensures.0) (rw (c.meant.ensures, left.0, left.1, left.2, right.1, right.2) at c.multiplied.ensures.1))
