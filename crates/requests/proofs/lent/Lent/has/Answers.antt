use Rattle.std.proofs.Common.{◌≡◌, true, false, refl, rules, arith}
use Rattle.std.proofs.lemmas.Iterator.{cases_from_any, YieldsList-from_range}
use Rattle.requests.proofs.FaultLaws.{any_over}
use Rattle.requests.proofs.lent.Lent.has.Goals as goal

pub returns : goal.returns
returns g c =
    let has = g.F.Fault.has c.args.self.now.columns c.args.self.now.words.now in
    any_over has c.args.self.now.rows _
    (cases_from_any _ _ _ (λ i. has i ≡ true) (λ i. has i ≡ false) c.any.ensures.ran (YieldsList-from_range 0 _ c.args.self.now.rows refl (omega arith)) (λ x q k. search rules) (λ x q k. (search rules, search rules)))
