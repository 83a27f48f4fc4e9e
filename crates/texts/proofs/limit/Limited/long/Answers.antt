use mathlib.Core.Path.{◌≡◌, ap₂}
use Prim.Native.Nat.{ℕ, ◌*◌}
use Rattle.buffers.specs.Buffer.{wide, words}
use Rattle.texts.proofs.TextLaws.{limit_words}
use native.Mathlib.Omega.{arith}
use Rattle.texts.proofs.limit.Limited.long.Goals as goal

pub returns : goal.returns
unfolding words
returns c =
    let e : c.rows.result * c.wide.result ≡ c.args.self.size.rows * wide c.args.self.size.columns = ap₂ (λ (r w : ℕ). r * w) c.rows.ensures c.wide.ensures.0 in
    (e, omega (arith, e, limit_words c.args.self.size.rows c.args.self.size.columns c.args.self.few c.args.self.narrow))
