use Rattle.std.proofs.Common.{◌≡◌, true, false, Some, rules, arith}
use Rattle.std.proofs.lemmas.Iterator.{first_from_Range}
use Rattle.cells.specs.Bit.{bit}
use Rattle.cells.specs.Fault.{stray_in}
use Rattle.cells.proofs.LeastLaws.{least_first}
use Rattle.buffers.proofs.SizeLaws.{planes_le}
use Rattle.rows.proofs.FaultLaws.{stray_in_pair, FirstPair, first_pair, stray_before, stray_here}
use Rattle.rows.proofs.fault.stray_column.Goals as goal

found_at : (c : goal.After-unwrap-p) → FirstPair c.args.a.now c.args.x c.args.q (Some c.unwrap-p.result)
found_at c =
    let has = stray_in_pair c.args.a.now c.args.x c.args.q in
    let at : FirstPair c.args.a.now c.args.x c.args.q c.find.result = first_from_Range _ _ _ _ (λ i. has i ≡ true) (λ i. has i ≡ false) c.find.ensures.ran (λ x q k. search rules) (λ x q k. (search rules, search rules)) in
    rw c.unwrap-p.ensures at at

pub unwrap-p-requires : goal.unwrap-p-requires
unwrap-p-requires c =
    let has = stray_in_pair c.args.a.now c.args.x c.args.q in
    let at : FirstPair c.args.a.now c.args.x c.args.q c.find.result = first_from_Range _ _ _ _ (λ i. has i ≡ true) (λ i. has i ≡ false) c.find.ensures.ran (λ x q k. search rules) (λ x q k. (search rules, search rules)) in
    first_pair _ _ _ _ c.requires.0 c.requires.3 _ at

pub overflow_mul-result : goal.overflow_mul-result
overflow_mul-result c = omega (arith, planes_le _ c.requires.1, (found_at c).1)

pub overflow_add-x : goal.overflow_add-x
overflow_add-x c = omega (arith, (found_at c).1)

pub load-requires : goal.load-requires
load-requires c = omega (arith, (found_at c).1)

pub overflow_add-result : goal.overflow_add-result
overflow_add-result c =
    let has = stray_in_pair c.args.a.now c.args.x c.args.q in
    let found : FirstPair c.args.a.now c.args.x c.args.q c.find.result = first_from_Range _ _ _ _ (λ i. has i ≡ true) (λ i. has i ≡ false) c.find.ensures.ran (λ x q k. search rules) (λ x q k. (search rules, search rules)) in
    let at = rw c.unwrap-p.ensures at found in
    let hit : stray_in (bit c.load.result.unit) (bit c.load.result.sign) 64 ≡ true = rw (c.load.ensures.0, c.load.ensures.1) at.2 in
    omega (arith, planes_le _ c.requires.1, at.1, c.first_stray.ensures, (least_first _ 64 hit).within)

pub returns : goal.returns
returns c =
    let has = stray_in_pair c.args.a.now c.args.x c.args.q in
    let found : FirstPair c.args.a.now c.args.x c.args.q c.find.result = first_from_Range _ _ _ _ (λ i. has i ≡ true) (λ i. has i ≡ false) c.find.ensures.ran (λ x q k. search rules) (λ x q k. (search rules, search rules)) in
    let at = rw c.unwrap-p.ensures at found in
    let hit : stray_in (bit c.load.result.unit) (bit c.load.result.sign) 64 ≡ true = rw (c.load.ensures.0, c.load.ensures.1) at.2 in
    rw c.first_stray.ensures
    (stray_here _ _ _ _ _ _ c.load.ensures.0 c.load.ensures.1 _ c.requires.3 (stray_before _ _ _ _ (λ p l. at.3 p (omega arith) l)) hit)
