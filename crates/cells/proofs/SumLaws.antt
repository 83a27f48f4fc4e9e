-- Finite sums. Assumes nothing.
use Rattle.std.proofs.Common.{◌≡◌, ℕ, zero, suc, ◌+◌, ◌-◌, ◌*◌, ◌<◌, ◌≤◌, sym, refl, ap, ◌∙◌, le_refl, add-zero, add-suc, suc-add, zero-add, arith}
use Rattle.cells.specs.Counts.{sum}

pub sum_add : (f : ℕ → ℕ) (a b s : ℕ) → sum s (a + b) f ≡ sum s a f + sum (s + a) b f
unfolding sum
sum_add f zero b s = rw (zero-add b, add-zero s) (omega arith)
sum_add f (suc a) b s = rw (suc-add a b, add-suc s a) (omega (arith, rw suc-add at (sum_add f a b (suc s))))

-- the sum of the first a + b terms
pub sum_more : (f : ℕ → ℕ) (a b : ℕ) → sum 0 (a + b) f ≡ sum 0 a f + sum a b f
sum_more f a b = rw (sum_add f a b 0, zero-add)

pub sum_none : (f : ℕ → ℕ) (s : ℕ) → sum s 0 f ≡ 0
unfolding sum
sum_none f s = refl

sum_one : (f : ℕ → ℕ) (s : ℕ) → sum s 1 f ≡ f s
unfolding sum
sum_one f s = omega arith

-- one term more, at the end
pub sum_last : (f : ℕ → ℕ) (n : ℕ) → sum 0 (suc n) f ≡ sum 0 n f + f n
sum_last f n = let e : suc n ≡ n + 1 = omega arith in rw (e, sum_more f n 1, sum_one f n)

-- more terms are no less
pub sum_mono : (f : ℕ → ℕ) (a b : ℕ) → a ≤ b → sum 0 a f ≤ sum 0 b f
sum_mono f a b h = let e : b ≡ a + (b - a) = omega arith in rw e (omega (arith, sum_more f a (b - a)))

pub sum_le : (f g : ℕ → ℕ) → ((i : ℕ) → f i ≤ g i) → (n s : ℕ) → sum s n f ≤ sum s n g
unfolding sum
sum_le f g h zero s = le_refl 0
sum_le f g h (suc n) s = omega (arith, h s, sum_le f g h n (suc s))

pub sum_same : (c n s : ℕ) → sum s n (λ _. c) ≡ n * c
unfolding sum
sum_same c zero s = omega arith
sum_same c (suc n) s = omega (arith, sum_same c n (suc s))

pub sum_ext : (f g : ℕ → ℕ) (n s : ℕ) → ((i : ℕ) → s ≤ i → i < s + n → f i ≡ g i) → sum s n f ≡ sum s n g
unfolding sum
sum_ext f g zero s h = refl
sum_ext f g (suc n) s h = omega (arith, h s (omega arith) (omega arith), sum_ext f g n (suc s) (λ i a b. h i (omega arith) (omega arith)))

-- a sum from a on, as one from 0 on
sum_shift : (f : ℕ → ℕ) (a n s : ℕ) → sum (a + s) n f ≡ sum s n (λ t. f (a + t))
unfolding sum
sum_shift f a zero s = refl
sum_shift f a (suc n) s = omega (arith, rw add-suc at (sum_shift f a n (suc s)))

pub sum_from : (f : ℕ → ℕ) (a n : ℕ) → sum a n f ≡ sum 0 n (λ t. f (a + t))
sum_from f a n = ap (λ (s : ℕ). sum s n f) (sym (add-zero a)) ∙ sum_shift f a n 0
