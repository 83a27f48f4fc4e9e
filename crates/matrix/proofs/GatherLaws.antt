-- Words that are gathered from their highest bit down, and the digits that they hold. Assumes nothing.
use mathlib.Core.Path.{◌≡◌, refl, sym, ap, ap₂, ◌∙◌}
use Prim.Native.Nat.{ℕ, suc, ◌+◌, ◌-◌, ◌*◌, ◌^◌, ◌≤◌, ◌<◌}
use native.Mathlib.Decide.{dec_lt}
use native.Mathlib.Omega.{arith}
use mathlib.Core.List.{List}
use lib.ListN.{length, get_or, drop, get_or-eq_default}
use Rattle.std.proofs.lemmas.List.{length-take}
use Rattle.std.specs.List.{between}
use Rattle.std.proofs.lemmas.List.Edits.{length-between, get_or-between}
use lib.Pow.{pow_mono}
use borrow.Author.Tests.{lt-ltb, le-ltb}
use Rattle.cells.specs.Bit.{bit, word_of}
use Rattle.cells.specs.Digit.{unit_of, sign_of}
use Rattle.cells.specs.Pair.{digit, LegalPair, WordPair}
use Rattle.cells.proofs.WordLaws.{word_of_lt, word_of_bit, bit_high}
use Rattle.cells.proofs.EncodeLaws.{unit_lt, sign_lt}
use Rattle.cells.proofs.PairLaws.{holds_cong}
use Rattle.matrix.specs.Gathered.{up_to}

pub up_in : (n : ℕ) (f : ℕ → ℕ) (t : ℕ) → t < n → up_to n f t ≡ f t
unfolding up_to
up_in n f t l = rw (lt-ltb t n l, up_to)

pub up_out : (n : ℕ) (f : ℕ → ℕ) (t : ℕ) → n ≤ t → up_to n f t ≡ 0
unfolding up_to
up_out n f t l = rw (le-ltb t n l, up_to)

pub up_cong : (n : ℕ) (f g : ℕ → ℕ) → ((t : ℕ) → t < n → f t ≡ g t) → (t : ℕ) → up_to n f t ≡ up_to n g t
up_cong n f g e t = go (dec_lt t n)
  where
    go : Dec (t < n) → up_to n f t ≡ up_to n g t
    go (yes l) = up_in n f t l ∙ e t l ∙ sym (up_in n g t l)
    go (no l) = up_out n f t (omega arith) ∙ sym (up_out n g t (omega arith))

-- one bit more, below those that are there
pub push_none : (f : ℕ → ℕ) (n : ℕ) → 0 ≡ word_of (λ k. f (n + k)) (n - n)
unfolding word_of
push_none f n = let z : n - n ≡ 0 = omega arith in rw z

pub push_more : (f : ℕ → ℕ) (n t i w b : ℕ) → i ≡ t - 1 → 0 < t → t ≤ n → w ≡ word_of (λ k. f (t + k)) (n - t) → b ≡ f i → w * 2 + b ≡ word_of (λ k. f (i + k)) (n - i)
unfolding word_of
push_more f n t i w b ei pos h ew eb =
    let e : n - i ≡ suc (n - t) = omega arith in
    let step : (k : ℕ) → t + k ≡ i + suc k = λ k. omega arith in
    let zero-on : i ≡ i + 0 = omega arith in
    rw e (ap₂ (λ (x y : ℕ). x * 2 + y) (ew ∙ ap (λ (g : ℕ → ℕ). word_of g (n - t)) (λ j k. ap f (step k) j)) (eb ∙ ap f zero-on))

-- there is room for it
pub push_fits : (f : ℕ → ℕ) (n t w : ℕ) → ((k : ℕ) → f k < 2) → 0 < t → n ≤ 64 → w ≡ word_of (λ k. f (t + k)) (n - t) → w < 2 ^ 63
push_fits f n t w small pos h ew =
    let m : n - t ≤ 63 = omega arith in
    omega (arith, ew, word_of_lt (λ k. f (t + k)) (n - t) (λ k. small (t + k)), pow_mono m)

-- the words of unit bits f and sign bits g
pub gathered_holds : (f g : ℕ → ℕ) (n u s : ℕ) → n ≤ 64 → ((t : ℕ) → f t < 2) → ((t : ℕ) → g t < 2) → ((t : ℕ) → t < n → g t ≤ f t)
    → u ≡ word_of f n → s ≡ word_of g n → WordPair (up_to n (λ t. f t + g t)) u s
unfolding LegalPair digit
gathered_holds f g n u s h fs gs legal eu es = record {
  holds = record { legal = λ t. (go t (dec_lt t n)).0; digits = λ t. (go t (dec_lt t n)).1 };
  unit_fits = omega (arith, eu, word_of_lt f n fs, pow_mono h);
  sign_fits = omega (arith, es, word_of_lt g n gs, pow_mono h);
}
  where
    go : (t : ℕ) → Dec (t < n) → (bit s t ≤ bit u t) × (bit u t + bit s t ≡ up_to n (λ t. f t + g t) t)
    go t (yes l) =
        rw (eu, es, word_of_bit f n t fs l, word_of_bit g n t gs l, up_in n (λ t. f t + g t) t l) (legal t l, refl)
    go t (no l) =
        let a : bit (word_of f n) t ≡ 0 = bit_high n (word_of f n) t (word_of_lt f n fs) (omega arith) in
        let b : bit (word_of g n) t ≡ 0 = bit_high n (word_of g n) t (word_of_lt g n gs) (omega arith) in
        rw (eu, es, a, b, up_out n (λ t. f t + g t) t (omega arith)) (omega arith, refl)

-- the words of digits d
pub packed_holds : (d : ℕ → ℕ) (n u s : ℕ) → n ≤ 64 → ((t : ℕ) → d t < 3) → u ≡ word_of (λ t. unit_of (d t)) n → s ≡ word_of (λ t. sign_of (d t)) n → WordPair (up_to n d) u s
unfolding unit_of sign_of
packed_holds d n u s h small eu es =
    let W = gathered_holds (λ t. unit_of (d t)) (λ t. sign_of (d t)) n u s h (λ t. unit_lt (d t)) (λ t. sign_lt (d t)) (λ t l. omega (arith, small t)) eu es in
    record {
      holds = holds_cong (up_cong n (λ t. unit_of (d t) + sign_of (d t)) d (λ t l. omega (arith, small t))) W.holds;
      unit_fits = W.unit_fits;
      sign_fits = W.sign_fits;
    }

-- digits that all stay below n do so from place a to below place e of the list
pub between_below : (ws : List ℕ) (a e n : ℕ) → ((t : ℕ) → get_or ws t 0 < n) → (t : ℕ) → get_or (between a e ws) t 0 < n
between_below ws a e n small t = go (dec_lt t (e - a))
  where
    go : Dec (t < e - a) → get_or (between a e ws) t 0 < n
    go (yes l) = rw (get_or-between ws a e t 0 (omega arith)) (small (a + t))
    go (no l) =
        let beyond : length (between a e ws) ≤ t = omega (arith, length-take (e - a) (drop a ws)) in
        rw (get_or-eq_default (between a e ws) 0 {n = t} beyond) (omega (arith, small 0))

-- the words of the digits from place a to below place e of a list
pub between_holds : (ws : List ℕ) (a e n u s : ℕ) → e ≡ a + n → e ≤ length ws → n ≤ 64 → ((t : ℕ) → get_or ws t 0 < 3)
    → u ≡ word_of (λ t. unit_of (get_or (between a e ws) t 0)) (length (between a e ws)) → s ≡ word_of (λ t. sign_of (get_or (between a e ws) t 0)) (length (between a e ws))
    → WordPair (up_to n (λ t. get_or ws (a + t) 0)) u s
between_holds ws a e n u s ee room h small eu es =
    let long : length (between a e ws) ≡ n = omega (arith, length-between ws a e room) in
    let W = packed_holds (λ t. get_or (between a e ws) t 0) n u s h (between_below ws a e 3 small) (rw long at eu) (rw long at es) in
    record {
      holds = holds_cong (up_cong n (λ t. get_or (between a e ws) t 0) (λ t. get_or ws (a + t) 0) (λ t l. get_or-between ws a e t 0 (omega arith))) W.holds;
      unit_fits = W.unit_fits;
      sign_fits = W.sign_fits;
    }
