use mathlib.Core.Path.{refl, sym, ap, ◌∙◌}
use mathlib.Core.List.{List}
use Prim.Native.Nat.{ℕ, ◌%◌, ◌^◌}
use lib.ListN.{length}
use Rattle.std.specs.Prelude.{Ok}
use Rattle.std.proofs.lemmas.Result.{err_from_is_err_and}
use Rattle.requests.specs.Answers.{answered}
use Rattle.matrix.specs.Product.{product_means}
use Rattle.matrix.proofs.Demand3.{product_end}
use Rattle.texts.proofs.ProductLaws.{product_tests_lem, total_done, total_made}
use Rattle.texts.proofs.multiply.made.Goals as goal

pub returns-in_err-product-clause-reason : goal.returns-in_err-product-clause-reason
unfolding product_means answered
returns-in_err-product-clause-reason c =
    let p = err_from_is_err_and c.from_residual.result c.from_residual.ensures.1 in
    rw (p.1, p.2) (ap (λ (o : ℕ × (List ℕ × List ℕ)). o.0 % 2 ^ 8) c.in_err-product.ensures ∙ product_tests_lem c.args.x.size c.args.y.size c.args.a.now c.args.b.now c.args.x.few c.args.x.narrow c.args.y.few c.args.y.narrow c.requires.0 c.requires.1 (length c.args.table.now) (length c.args.out.now) c.requires.2 c.requires.3)

pub returns-clause-reason : goal.returns-clause-reason
unfolding product_means answered
returns-clause-reason c =
    let none = ap (λ (o : ℕ × (List ℕ × List ℕ)). o.0 % 2 ^ 8) c.in_ok-product.ensures ∙ product_tests_lem c.args.x.size c.args.y.size c.args.a.now c.args.b.now c.args.x.few c.args.x.narrow c.args.y.few c.args.y.narrow c.requires.0 c.requires.1 (length c.args.table.now) (length c.args.out.now) c.requires.2 c.requires.3 in
    ap (λ (w : ℕ). w % 2 ^ 8) (total_done c.args.x.size c.args.y.size c.args.a.now c.args.b.now c.args.x.few c.args.x.narrow c.args.y.few c.args.y.narrow c.requires.0 c.requires.1 c.total.result (sym none) c.total.ensures) ∙ none

pub returns-clause-done : goal.returns-clause-done
unfolding product_means answered
returns-clause-done c =
    let none = ap (λ (o : ℕ × (List ℕ × List ℕ)). o.0 % 2 ^ 8) c.in_ok-product.ensures ∙ product_tests_lem c.args.x.size c.args.y.size c.args.a.now c.args.b.now c.args.x.few c.args.x.narrow c.args.y.few c.args.y.narrow c.requires.0 c.requires.1 (length c.args.table.now) (length c.args.out.now) c.requires.2 c.requires.3 in
    total_made c.args.x.size c.args.y.size c.args.a.now c.args.b.now c.args.x.few c.args.x.narrow c.args.y.few c.args.y.narrow c.requires.0 c.requires.1 c.total.result (sym none) c.total.ensures _ (product_end c.args.x.size c.args.y.size 0 c.args.a.now c.args.b.now c.args.table.now c.args.out.now (Ok tt) _ _ c.in_ok-product.ensures refl)
