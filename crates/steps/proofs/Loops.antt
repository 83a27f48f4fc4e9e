-- Lists of steps made by `each`, and how the columns are cut in blocks. Assumes nothing.
use Prim.Native.Nat.{ℕ, zero, suc, ◌+◌, ◌-◌, ◌*◌, ◌≤◌, ◌<◌}
use mathlib.Core.Path.{◌≡◌, refl}
use mathlib.Core.List.{List, [], ◌++◌, append_assoc}
use native.Mathlib.Omega.{arith}
use native.Mathlib.Nat.{sub_self, le-div_iff_mul-le, lt-div-mul-add}
use lib.ListN.{length, length-append}
use Rattle.cells.specs.Counts.{sum}
use Rattle.steps.specs.Step.{Step}
use Rattle.steps.specs.StepList.{many, each, blocks, block_width}

pub each_next : (f : ℕ → List Step) (s e : ℕ) → s < e → each s e f ≡ f s ++ each (suc s) e f
unfolding each many
each_next f s e h = let q : e - s ≡ suc (e - suc s) = omega arith in rw q

pub each_end : (f : ℕ → List Step) (e : ℕ) → each e e f ≡ []
unfolding each many
each_end f e = rw sub_self

many_add : (f : ℕ → List Step) (a b s : ℕ) → many s (a + b) f ≡ many s a f ++ many (s + a) b f
unfolding many
many_add f zero b s = let e₁ : 0 + b ≡ b = omega arith in let e₂ : s + 0 ≡ s = omega arith in rw (e₁, e₂)
many_add f (suc a) b s =
    let e₁ : suc a + b ≡ suc (a + b) = omega arith in
    let e₂ : s + suc a ≡ suc s + a = omega arith in
    rw (e₁, e₂, append_assoc, many_add f a b (suc s))

-- a loop is its first part and the rest
pub each_split : (f : ℕ → List Step) (s x e : ℕ) → s ≤ x → x ≤ e → each s e f ≡ each s x f ++ each x e f
unfolding each
each_split f s x e p q =
    let e₁ : e - s ≡ (x - s) + (e - x) = omega arith in
    let e₂ : s + (x - s) ≡ x = omega arith in
    rw (e₁, many_add, e₂)

many_same : (f g : ℕ → List Step) (n s : ℕ) → ((x : ℕ) → s ≤ x → x < s + n → f x ≡ g x) → many s n f ≡ many s n g
unfolding many
many_same f g zero s h = refl
many_same f g (suc n) s h = rw (h s (omega arith) (omega arith), many_same f g n (suc s) (λ x a b. h x (omega arith) (omega arith)))

pub each_same : (f g : ℕ → List Step) (s e : ℕ) → ((x : ℕ) → s ≤ x → x < e → f x ≡ g x) → each s e f ≡ each s e g
unfolding each
each_same f g s e h = many_same f g (e - s) s (λ x a b. h x a (omega arith))

length_many : (f : ℕ → List Step) (n s : ℕ) → length (many s n f) ≡ sum s n (λ x. length (f x))
unfolding many sum
length_many f zero s = refl
length_many f (suc n) s = rw (length-append, length_many f n (suc s))

pub length_each : (f : ℕ → List Step) (s e : ℕ) → length (each s e f) ≡ sum s (e - s) (λ x. length (f x))
unfolding each
length_each f s e = length_many f (e - s) s

-- ---- blocks of columns

pub blocks_within : (l k b : ℕ) → 0 < k → b < blocks l k → b * k < l
unfolding blocks
blocks_within l k b pos h = omega (arith, (le-div_iff_mul-le pos).0 h)

pub blocks_cover : (l k : ℕ) → 0 < k → l ≤ blocks l k * k
unfolding blocks
blocks_cover l k pos = omega (arith, lt-div-mul-add {a = l + (k - 1)} pos)

-- with no column there is no block
pub no_blocks : (k : ℕ) → 0 < k → blocks 0 k ≡ 0
no_blocks k pos = let none : 0 < blocks 0 k → ⊥ = λ h. omega (arith, blocks_within 0 k 0 pos h) in omega (arith, none)

-- a block lies within the columns, is not empty, and is no wider than k
pub width_within : (l k b : ℕ) → 0 < k → b < blocks l k → b * k + block_width l k b ≤ l
unfolding block_width
width_within l k b pos h = omega (arith, blocks_within l k b pos h)

pub width_pos : (l k b : ℕ) → 0 < k → b < blocks l k → 0 < block_width l k b
unfolding block_width
width_pos l k b pos h = omega (arith, blocks_within l k b pos h)

pub width_le : (l k b : ℕ) → block_width l k b ≤ k
unfolding block_width
width_le l k b = omega arith
