-- Digits, the numbers that they say, and lines. Assumes nothing.
use mathlib.Core.Path.{◌≡◌, refl, sym, ap, ◌∙◌}
use mathlib.Core.Bool.{Bool, true, false, ◌||◌, not}
use mathlib.Core.List.{List}
use Prim.Native.Nat.{ℕ, zero, suc, ◌+◌, ◌*◌, ◌^◌, ◌≤◌, ◌<◌}
use native.Mathlib.Numerals.{add-one}
use native.Mathlib.Omega.{arith}
use lib.Pow.{pow-add, pow_mono}
use lib.Dec.{ltb, eqb}
use lib.ListN.{length, get_or, take, drop, length-take, length-drop}
use Rattle.std.specs.Prelude.{MatchBool, EachIndex}
use Rattle.std.specs.List.{Any}
use Rattle.std.proofs.lemmas.List.{get_or_default, get_or-take, get_or-drop}
use borrow.Author.Tests.{le-ltb, ltb-false, eqb-true, not-false}
use Rattle.cells.proofs.AnyLaws.{or_left, or_right, any_at, any_cong, any_none, any_found}
use Rattle.hexadecimal.specs.Digit.{digit_of}
use Rattle.hexadecimal.specs.Line.{value_of, undigit, unframed}

pub sixteen : (n : ℕ) → 2 ^ (4 * suc n) ≡ 16 * 2 ^ (4 * n)
sixteen n =
    let e : 4 * suc n ≡ 4 + 4 * n = omega arith in
    ap (λ (k : ℕ). 2 ^ k) e ∙ pow-add 2 4 (4 * n)

-- every byte from place x on, n of them, is a digit
abbrev pub Digits : List ℕ → ℕ → ℕ → Type 0
Digits line x n = (k : ℕ) → k < n → digit_of (get_or line (x + k) 0) < 16

pub value_lt : (line : List ℕ) (x n : ℕ) → Digits line x n → value_of line x n < 2 ^ (4 * n)
unfolding value_of
value_lt line x zero h = omega arith
value_lt line x (suc n) h = rw (sixteen n) (omega (arith, value_lt line x n (λ k l. h k (omega arith)), h n (omega arith)))

pub value_room : (line : List ℕ) (x k : ℕ) → Digits line x (suc k) → k < 16 → 16 * value_of line x k + digit_of (get_or line (x + k) 0) < 2 ^ 64
unfolding value_of
value_room line x k h l =
    let m : 4 * suc k ≤ 64 = omega arith in
    omega (arith, value_lt line x (suc k) h, pow_mono m)

pub value_next : (line : List ℕ) (x k v d : ℕ) → v ≡ value_of line x k → d ≡ digit_of (get_or line (x + k) 0) → 16 * v + d ≡ value_of line x (k + 1)
unfolding value_of
value_next line x k v d e f = rw (add-one k, e, f)

pub value_none : (line : List ℕ) (x : ℕ) → 0 ≡ value_of line x 0
unfolding value_of
value_none line x = refl

-- .. of the n digits from place x on
value_at : (line part : List ℕ) (x n : ℕ) → ((k : ℕ) → k < n → get_or part k 0 ≡ get_or line (x + k) 0) → value_of part 0 n ≡ value_of line x n
unfolding value_of
value_at line part x zero h = refl
value_at line part x (suc n) h =
    let e : 0 + n ≡ n = omega arith in
    rw (e, value_at line part x n (λ k l. h k (omega arith)), h n (omega arith))

pub value_part : (line : List ℕ) (x n m : ℕ) → m ≡ n → x + n ≤ length line → value_of (take m (drop x line)) 0 (length (take m (drop x line))) ≡ value_of line x n
value_part line x n m d h =
    let e : length (take m (drop x line)) ≡ n = length-take m (drop x line) ∙ omega (arith, length-drop x line) in
    rw e (value_at line (take m (drop x line)) x n (λ k l. get_or-take m (drop x line) k 0 (omega arith) ∙ get_or-drop x line k 0))

-- the digits from place x on, as they are handed to what says their number
pub part_digits : (line : List ℕ) (x n m : ℕ) → m ≡ n → x + n ≤ length line → n ≤ 16 → Digits line x n
    → (length (take m (drop x line)) ≤ 16) × ((k : ℕ) → k < length (take m (drop x line)) → digit_of (get_or (take m (drop x line)) k 0) < 16)
part_digits line x n m d h few digits =
    let e : length (take m (drop x line)) ≡ n = length-take m (drop x line) ∙ omega (arith, length-drop x line) in
    (omega arith, λ k l. rw (get_or-take m (drop x line) k 0 (omega arith) ∙ get_or-drop x line k 0) (digits k (omega arith)))

-- ---- the tests of a line

-- what a search for a byte that is no digit answers
pub undigit_is : (bytes : List ℕ) (b : Bool) → MatchBool b (Any (λ x. digit_of x ≡ 16) bytes) (EachIndex bytes (λ k. digit_of (get_or bytes k 0) < 16)) → b ≡ undigit bytes (length bytes)
unfolding undigit
undigit_is bytes true (k, x, l, e, d) =
    let at : get_or bytes k 0 ≡ x = get_or_default bytes k 0 x l ∙ e in
    sym (any_found (λ i. ltb 15 (digit_of (get_or bytes i 0))) k (length bytes) l (rw (at, d)))
undigit_is bytes false h =
    sym (any_none (λ i. ltb 15 (digit_of (get_or bytes i 0))) (length bytes) (λ k l. le-ltb 15 (digit_of (get_or bytes k 0)) (let d = h k l in omega arith)))

-- .. of the first n bytes
pub undigit_front : (line : List ℕ) (n : ℕ) → n ≤ length line → undigit (take n line) (length (take n line)) ≡ undigit line n
unfolding undigit
undigit_front line n h =
    let e : length (take n line) ≡ n = length-take n line ∙ omega arith in
    rw e (any_cong (λ i. ltb 15 (digit_of (get_or (take n line) i 0))) (λ i. ltb 15 (digit_of (get_or line i 0))) n (λ k l. ap (λ (b : ℕ). ltb 15 (digit_of b)) (get_or-take n line k 0 l)))

-- a line of n digits and byte 10
pub record Framed (line : List ℕ) (n : ℕ) : Type 0 where
  pub long : length line ≡ n + 1
  pub digits : (k : ℕ) → k < n → digit_of (get_or line k 0) < 16
  pub end : get_or line n 0 ≡ 10

pub framed : (line : List ℕ) (n : ℕ) → unframed line n ≡ false → Framed line n
unfolding unframed undigit
framed line n h =
    let a = or_left (not (eqb (length line) (n + 1))) (undigit line n || not (eqb (get_or line n 0) 10)) h in
    let r = or_right (not (eqb (length line) (n + 1))) (undigit line n || not (eqb (get_or line n 0) 10)) h in
    let b = or_left (undigit line n) (not (eqb (get_or line n 0) 10)) r in
    let e = or_right (undigit line n) (not (eqb (get_or line n 0) 10)) r in
    record {
      long = eqb-true (length line) (n + 1) (not-false (eqb (length line) (n + 1)) a);
      digits = λ k l. (let z = ltb-false 15 (digit_of (get_or line k 0)) (any_at (λ i. ltb 15 (digit_of (get_or line i 0))) n b k l) in omega arith);
      end = eqb-true (get_or line n 0) 10 (not-false (eqb (get_or line n 0) 10) e);
    }
