use mathlib.Core.Path.{◌≡◌, sym, ap, ◌∙◌}
use Prim.Native.Nat.{◌+◌, ◌-◌, ◌^◌, ◌≤◌}
use lib.Pow.{pow_pos}
use Rattle.cells.proofs.SumLaws.{sum_none}
use Rattle.steps.specs.StepList.{block_width}
use Rattle.steps.proofs.Loops.{width_le}
use Rattle.walk.proofs.CountLaws.{shift_one}
use Rattle.walk.proofs.LaneLaws.{blocks_le, tables_more, tables_small}
use native.Mathlib.Omega.{arith}
use Rattle.walk.proofs.many.tables.Goals as goal

pub overflow_add-c-end : goal.overflow_add-c-end
overflow_add-c-end c = omega (arith, c.requires.0, c.requires.3, blocks_le c.args.l c.args.k c.requires.1)

pub loop-c-init : goal.loop-c-init
loop-c-init c =
    let none : c.args.b - c.args.b ≡ 0 = omega arith in
    rw none (sym (sum_none (λ w. 2 ^ block_width c.args.l c.args.k w - 1) c.args.b))

pub overflow_shl-t : goal.overflow_shl-t
overflow_shl-t c = omega (arith, c.width.ensures, width_le c.args.l c.args.k c.loop-c.c, c.requires.2)

pub overflow_sub-t : goal.overflow_sub-t
overflow_sub-t c =
    let few : c.width.result ≤ 8 = omega (arith, c.width.ensures, width_le c.args.l c.args.k c.loop-c.c, c.requires.2) in
    omega (arith, shift_one c.width.result few, pow_pos c.width.result)

pub overflow_add-t : goal.overflow_add-t
overflow_add-t c =
    let at = c.loop-c in
    let small : c.width.result ≤ 8 = omega (arith, c.width.ensures, width_le c.args.l c.args.k at.c, c.requires.2) in
    let here : c.args.b + (at.c - c.args.b) ≡ at.c = omega arith in
    let more = tables_more c.args.l c.args.k c.args.b (at.c - c.args.b) at.t c.width.result small (c.width.ensures ∙ ap (block_width c.args.l c.args.k) (sym here)) at.invariant in
    omega (arith, more, tables_small c.args.l c.args.k c.args.b (at.c - c.args.b + 1) c.requires.2 (omega (arith, c.requires.4)))

pub loop-c-preserved : goal.loop-c-preserved
loop-c-preserved c =
    let at = c.loop-c in
    let small : c.width.result ≤ 8 = omega (arith, c.width.ensures, width_le c.args.l c.args.k at.c, c.requires.2) in
    let here : c.args.b + (at.c - c.args.b) ≡ at.c = omega arith in
    let more = tables_more c.args.l c.args.k c.args.b (at.c - c.args.b) at.t c.width.result small (c.width.ensures ∙ ap (block_width c.args.l c.args.k) (sym here)) at.invariant in
    let next : at.c + 1 - c.args.b ≡ at.c - c.args.b + 1 = omega arith in
    rw next more

pub returns : goal.returns
returns c =
    let all : c.loop-c.c - c.args.b ≡ c.args.n = omega arith in
    rw all at c.loop-c.invariant
