-- A block that is cut from a product's factors. Assumes nothing.
use mathlib.Core.Path.{◌≡◌, ap, ap₂, subst, ◌∙◌}
use mathlib.Core.List.{List}
use Prim.Native.Nat.{ℕ, ◌*◌}
use Rattle.steps.specs.Step.{Step}
use Rattle.steps.specs.StepList.{block_width, block_steps, block_at}
use Rattle.walk.specs.Factors.{RanFor, matrix_of, block_list}
use Rattle.walk.specs.declared.factors.Factors.{Factors}
use Rattle.walk.specs.declared.factors.Block.{Block}

module _ (f : Factors) (block : Block) (c : ℕ) (cut : (block.factors ≡ f) × (block.start ≡ c * f.width) × (block.width ≡ block_width f.a.columns f.width c)) where
  -- its steps are block c of the list
  pub listed : block_list block ≡ block_at f.a.rows f.a.columns f.width (matrix_of f.a) c
  listed = ap (λ (g : Factors). block_steps g.a.rows (matrix_of g.a) block.start block.width) cut.0 ∙ ap₂ (λ (s w : ℕ). block_steps f.a.rows (matrix_of f.a) s w) cut.1 cut.2

  -- and what some of them leave, these of block c leave
  pub ran_listed : (some : List Step → List Step) (t p t' p' : List ℕ) → RanFor block.factors (matrix_of block.factors.b) (some (block_list block)) t p t' p'
      → RanFor f (matrix_of f.b) (some (block_at f.a.rows f.a.columns f.width (matrix_of f.a) c)) t p t' p'
  ran_listed some t p t' p' R =
      subst (λ (ps : List Step). RanFor f (matrix_of f.b) (some ps) t p t' p') listed
      (subst (λ (g : Factors). RanFor g (matrix_of g.b) (some (block_list block)) t p t' p') cut.0 R)
