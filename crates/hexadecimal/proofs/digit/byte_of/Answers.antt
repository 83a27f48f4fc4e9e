use borrow.Author.Tests.{lt-ltb, le-ltb}
use native.Mathlib.Omega.{arith}
use Rattle.hexadecimal.specs.Digit.{byte_of}
use Rattle.hexadecimal.proofs.digit.byte_of.Goals as goal

pub returns-then-d-lt10 : goal.returns-then-d-lt10
unfolding byte_of
returns-then-d-lt10 c = simp (lt-ltb c.args.d 10 c.if-d-lt10.true)

pub returns-else-d-lt10 : goal.returns-else-d-lt10
unfolding byte_of
returns-else-d-lt10 c = simp (le-ltb c.args.d 10 c.if-d-lt10.false) (omega arith)
