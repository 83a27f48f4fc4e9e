use Rattle.std.proofs.lemmas.Result.{err_from_is_err_and}
use Rattle.requests.proofs.WordLaws.{some_reason}
use Rattle.texts.proofs.TextLaws.{size_short, size_refused}
use Rattle.texts.proofs.FoundLaws.{size_limited}
use native.Mathlib.Omega.{arith}
use Rattle.texts.proofs.read.size_in.Goals as goal

pub returns-then-text-lt9 : goal.returns-then-text-lt9
returns-then-text-lt9 c = size_short c.args.text.now (omega arith)

pub returns-in_err-size : goal.returns-in_err-size
returns-in_err-size c =
    let p = err_from_is_err_and c.from_residual.result c.from_residual.ensures.1 in
    rw (p.1, p.2) (size_refused c.args.text.now _ _ _ c.in_err-size.ensures (some_reason _))

pub returns : goal.returns
returns c = size_limited c.args.text.now c.in_ok-size.size c.try_from.result c.in_ok-size.ensures c.try_from.ensures
