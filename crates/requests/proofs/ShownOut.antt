-- Shown out of a request: an implementation that refuses everything, and one with a fixed answer. Two inputs that differ in one place, are done
-- and leave different things are enough. Said here once, for the crates above. Assumes nothing.
use mathlib.Core.Path.{◌≡◌, sym, ap, ◌∙◌}
use Prim.Native.Nat.{ℕ}

-- f is any code that meets the statement; i is the place where the two inputs differ, x the rest of what is handed in, S what is left; say is
-- the number of an answer. f does not refuse everything, and where it is done, what it leaves is not the same whatever i is
abbrev pub ShownOut : {X I R S : Type 0} → (R → ℕ) → (X → I → ℕ × S) → Type 0
ShownOut {X = X} {I = I} {R = R} {S = S} say means =
    (f : X → I → R × S) → ((x : X) (i : I) → (say (f x i).0, (f x i).1) ≡ means x i)
    → (((x : X) (i : I) → say (f x i).0 ≡ 0 → ⊥) → ⊥) × (((x : X) (i j : I) → say (f x i).0 ≡ 0 → say (f x j).0 ≡ 0 → (f x i).1 ≡ (f x j).1) → ⊥)

parts : {S : Type 0} (o p : ℕ × S) → o ≡ p → (o.0 ≡ p.0) × (o.1 ≡ p.1)
parts {S = S} o p e = (ap (λ (v : ℕ × S). v.0) e, ap (λ (v : ℕ × S). v.1) e)

pub shown_out : {X I R S : Type 0} (say : R → ℕ) (means : X → I → ℕ × S) (x : X) (i j : I) (s t : S) → means x i ≡ (0, s) → means x j ≡ (0, t) → (s ≡ t → ⊥) → ShownOut say means
shown_out say means x i j s t p q differ f meets =
    let at_i = parts _ (0, s) (meets x i ∙ p) in
    let at_j = parts _ (0, t) (meets x j ∙ q) in
    (λ refuses. refuses x i at_i.0, λ fixed. differ (sym at_i.1 ∙ fixed x i j at_i.0 at_j.0 ∙ at_j.1))

-- the same of an answer alone: it is neither always a refusal nor always the same
abbrev pub AnswerShownOut : {X I R : Type 0} → (R → ℕ) → (X → I → ℕ) → Type 0
AnswerShownOut {X = X} {I = I} {R = R} say means =
    (f : X → I → R) → ((x : X) (i : I) → say (f x i) ≡ means x i)
    → (((x : X) (i : I) → say (f x i) ≡ 0 → ⊥) → ⊥) × (((x : X) (i j : I) → f x i ≡ f x j) → ⊥)

pub answer_shown_out : {X I R : Type 0} (say : R → ℕ) (means : X → I → ℕ) (x : X) (i j : I) (n : ℕ) → means x i ≡ 0 → means x j ≡ n → (n ≡ 0 → ⊥) → AnswerShownOut say means
answer_shown_out say means x i j n p q refused f meets = (
  λ refuses. refuses x i (meets x i ∙ p),
  λ fixed. refused (sym q ∙ sym (meets x j) ∙ ap say (fixed x j i) ∙ meets x i ∙ p),
)
