-- An answer whose word is 0 is done. Assumes nothing.
use mathlib.Core.Path.{◌≡◌, refl}
use Rattle.std.specs.Prelude.{Ok, Err}
use Rattle.requests.specs.Answers.{Answer, word}
use Rattle.requests.proofs.WordLaws.{some_reason}

pub done : (r : Answer) → word r ≡ 0 → r ≡ Ok tt
done (Ok tt) e = refl
done (Err r) e = absurd (some_reason r e)
