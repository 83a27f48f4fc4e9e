-- Lines that are written byte after byte. Assumes nothing.
use mathlib.Core.Path.{◌≡◌, sym, ◌∙◌}
use mathlib.Core.List.{List, [], ◌∷◌, ◌++◌}
use Prim.Native.Nat.{ℕ, suc, ◌+◌, ◌-◌, ◌<◌}
use native.Mathlib.Decide.{dec_lt}
use native.Mathlib.Omega.{arith}
use lib.ListN.{length, get_or, set, length-set, length-append, get_or-append}
use lib.Seq.{get_or-set_same, get_or-set_other, get_or_at, ext_get_or}
use Rattle.buffers.proofs.BufferLaws.{length_tab, get_d_tab}
use Rattle.hexadecimal.specs.Digit.{byte_of, nibble}
use Rattle.hexadecimal.specs.Line.{hex_of}
use Rattle.hexadecimal.proofs.HexLaws.{Framed}

-- the first n elements are those of f
abbrev pub Filled : (ℕ → ℕ) → ℕ → List ℕ → Type 0
Filled f n t = (i : ℕ) → i < n → get_or t i 0 ≡ f i

pub filled_none : (f : ℕ → ℕ) (t : List ℕ) → Filled f 0 t
filled_none f t i l = absurd (omega arith)

pub filled_next : (f : ℕ → ℕ) (k : ℕ) (t : List ℕ) (v : ℕ) → k < length t → v ≡ f k → Filled f k t → Filled f (k + 1) (set t k v)
filled_next f k t v room e h i l = go (dec_lt i k)
  where
    go : Dec (i < k) → get_or (set t k v) i 0 ≡ f i
    go (yes m) = get_or-set_other t k i v 0 (λ d. omega arith) ∙ h i m
    go (no m) =
        let d : i ≡ k = omega arith in
        rw d (get_or-set_same t k v 0 room ∙ e)

-- n bytes as in xs, and then byte 10
pub filled_end : (f : ℕ → ℕ) (n : ℕ) (t xs : List ℕ) → length t ≡ n + 1 → Filled f n t → length xs ≡ n → Filled f n xs → set t n 10 ≡ xs ++ (10 ∷ [])
filled_end f n t xs long h size g =
    ext_get_or 0 (set t n 10) (xs ++ (10 ∷ [])) (simp (length-set, length-append) (omega arith)) (λ i l. go i (dec_lt i n) (omega (arith, length-set t n 10)))
  where
    go : (i : ℕ) → Dec (i < n) → i < n + 1 → get_or (set t n 10) i 0 ≡ get_or (xs ++ (10 ∷ [])) i 0
    go i (yes m) l = get_or-set_other t n i 10 0 (λ d. omega arith) ∙ h i m ∙ sym (g i m) ∙ sym (get_or-append xs (10 ∷ []) 0 i (omega arith))
    go i (no m) l =
        let d : i ≡ n = omega arith in
        rw d (get_or-set_same t n 10 0 (omega arith) ∙ sym (get_or_at xs 10 [] 0 n size))

pub hex_length : (n v : ℕ) → length (hex_of n v) ≡ n
unfolding hex_of
hex_length n v = length_tab n (λ k. byte_of (nibble v (n - suc k)))

pub hex_filled : (n v : ℕ) → Filled (λ k. byte_of (nibble v (n - suc k))) n (hex_of n v)
unfolding hex_of
hex_filled n v i l = get_d_tab n (λ k. byte_of (nibble v (n - suc k))) i l

-- ---- a line of n bytes and byte 10

pub end_length : (xs : List ℕ) (n : ℕ) → length xs ≡ n → length (xs ++ (10 ∷ [])) ≡ n + 1
end_length xs n e = simp length-append (omega arith)

pub end_front : (xs : List ℕ) (n : ℕ) (f : ℕ → ℕ) → length xs ≡ n → Filled f n xs → Filled f n (xs ++ (10 ∷ []))
end_front xs n f e h k l = get_or-append xs (10 ∷ []) 0 k (omega arith) ∙ h k l

-- two lines of one length that agree in the first n bytes and in byte 10
pub same_line : (xs line : List ℕ) (n : ℕ) (f : ℕ → ℕ) → length xs ≡ n → Filled f n xs → Framed line n → Filled f n line → xs ++ (10 ∷ []) ≡ line
same_line xs line n f e h F g =
    ext_get_or 0 (xs ++ (10 ∷ [])) line (end_length xs n e ∙ sym F.long) (λ i l. go i (omega (arith, end_length xs n e)) (dec_lt i n))
  where
    go : (i : ℕ) → i < n + 1 → Dec (i < n) → get_or (xs ++ (10 ∷ [])) i 0 ≡ get_or line i 0
    go i l (yes m) = end_front xs n f e h i m ∙ sym (g i m)
    go i l (no m) =
        let d : i ≡ n = omega arith in
        rw d (get_or_at xs 10 [] 0 n e ∙ sym F.end)
