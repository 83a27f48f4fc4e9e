use borrow.Author.Tests.{lt-ltb, le-ltb}
use native.Mathlib.Omega.{arith}
use Rattle.hexadecimal.specs.Digit.{digit_of}
use Rattle.hexadecimal.proofs.digit.digit_of.Goals as goal

pub returns-in-48-to-57 : goal.returns-in-48-to-57
unfolding digit_of
returns-in-48-to-57 c = (simp (le-ltb c.args.b 48 (omega arith), lt-ltb c.args.b 58 (omega arith)) (omega arith), omega arith)

pub returns-in-97-to-102 : goal.returns-in-97-to-102
unfolding digit_of
returns-in-97-to-102 c =
    (simp (le-ltb c.args.b 48 (omega arith), le-ltb c.args.b 58 (omega arith), le-ltb c.args.b 97 (omega arith), lt-ltb c.args.b 103 (omega arith)) (omega arith), omega arith)

pub returns-in_default : goal.returns-in_default
unfolding digit_of
returns-in_default c = simp (lt-ltb c.args.b 48 (omega arith))

pub returns-in_default-2 : goal.returns-in_default-2
unfolding digit_of
returns-in_default-2 c = simp (le-ltb c.args.b 48 (omega arith), le-ltb c.args.b 58 (omega arith), lt-ltb c.args.b 97 (omega arith))

pub returns-in_default-3 : goal.returns-in_default-3
unfolding digit_of
returns-in_default-3 c = simp (le-ltb c.args.b 48 (omega arith), le-ltb c.args.b 58 (omega arith), le-ltb c.args.b 97 (omega arith), le-ltb c.args.b 103 (omega arith))
