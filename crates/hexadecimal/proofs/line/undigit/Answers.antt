use Rattle.std.proofs.Common.{rules, ◌≡◌, ◌<◌, MatchBool, Any, EachIndex, get_or}
use Rattle.hexadecimal.specs.Digit.{digit_of}
use Rattle.hexadecimal.proofs.HexLaws.{undigit_is}
use Rattle.hexadecimal.proofs.line.undigit.Goals as goal

pub returns : goal.returns
returns c =
    let found : MatchBool c.any.result (Any (λ b. digit_of b ≡ 16) c.args.bytes.now) (EachIndex c.args.bytes.now (λ k. digit_of (get_or c.args.bytes.now k 0) < 16)) = search rules in
    undigit_is c.args.bytes.now c.any.result found
