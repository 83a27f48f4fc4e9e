use Rattle.std.proofs.Common.{◌≡◌, true, false, rules}
use Rattle.std.proofs.lemmas.Iterator.{first_from_Range}
use Rattle.requests.proofs.FaultLaws.{first_on}
use Rattle.requests.proofs.lent.Lent.first.Goals as goal

pub returns : goal.returns
returns g c =
    let has = g.F.Fault.has c.args.self.now.columns c.args.self.now.words.now in
    first_on has _ _ c.requires _
    (first_from_Range _ _ _ _ (λ i. has i ≡ true) (λ i. has i ≡ false) c.find.ensures.ran (λ x q k. search rules) (λ x q k. (search rules, search rules)))
