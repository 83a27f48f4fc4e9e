use mathlib.Core.Path.{◌≡◌, sym, ap}
use mathlib.Core.List.{List, ◌++◌}
use Prim.Native.Nat.{ℕ}
use lib.ListN.{drop}
use Rattle.texts.specs.Multiply.{refusal, laid}
use Rattle.texts.proofs.LaidLaws.{refused_word, roomy, cramped, refusal_long, refusal_laid}
use native.Mathlib.Omega.{arith}
use Rattle.texts.proofs.write.refuse.Goals as goal

pub returns-then-out-lt11 : goal.returns-then-out-lt11
returns-then-out-lt11 c = cramped (refusal c.args.n) c.args.out.now (omega (arith, refusal_long c.args.n))

pub returns : goal.returns
unfolding laid
returns c =
    let e : c.copy_from_slice.new.self ++ drop 8 c.args.out.now ≡ laid refused_word c.args.out.now = ap (λ (l : List ℕ). l ++ drop 8 c.args.out.now) c.copy_from_slice.ensures.after in
    roomy (refusal c.args.n) c.args.out.now 11 _ (omega (arith, refusal_long c.args.n)) (sym (refusal_long c.args.n)) (rw e (refusal_laid c.args.n c.args.out.now c.put.new.line c.put.ensures))
