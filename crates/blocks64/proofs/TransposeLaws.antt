-- Where the bits go in a stage, and in all six. Assumes nothing.
use mathlib.Core.Path.{◌≡◌, refl, sym, ap, ap₂, subst, ◌∙◌}
use mathlib.Core.Bool.{false, not}
use mathlib.Core.List.{List, [], ◌∷◌}
use Prim.Native.Nat.{ℕ, ◌+◌, ◌-◌, ◌*◌, ◌/◌, ◌%◌, ◌^◌, ◌<◌, min}
use native.Mathlib.Nat.{add-mul, mul-add, one-mul}
use native.Mathlib.Decide.{dec_lt}
use native.Mathlib.Omega.{arith}
use lib.Arith.{digits_div}
use lib.Bits.{bit_xor, differ}
use lib.Dec.{eqb}
use lib.ListN.{get_or}
use Rattle.cells.specs.Any.{any}
use Rattle.cells.specs.Bit.{bit}
use Rattle.cells.proofs.AnyLaws.{any_at, below}
use Rattle.cells.proofs.BitLaws.{bits, bit_lt, bit_of_and, bit_of_xor}
use Rattle.cells.proofs.WordLaws.{bit_shr, bit_mod, bit_shl_low, bit_shl_high}
use Rattle.buffers.proofs.BufferLaws.{by_row}
use Rattle.blocks64.specs.Exchange.{apart, lower, upper, Stage}
use Rattle.blocks64.specs.Transpose.{Transposed}

-- ---- where a bit of word i at place t comes from in stage h: the bit h of i and that of t are exchanged

unfoldable half : ℕ → ℕ → ℕ
half h i = i / h % 2

unfoldable across : ℕ → ℕ → ℕ → ℕ
across h i t = i + half h t * h - half h i * h

unfoldable sent : List ℕ → ℕ → ℕ → ℕ
sent [] i t = i
sent (h ∷ hs) i t = sent hs (across h i t) (across h t i)

unfoldable stages : List ℕ
stages = 1 ∷ 2 ∷ 4 ∷ 8 ∷ 16 ∷ 32 ∷ []

-- all six exchange i and t
all_sent : any 64 (λ i. any 64 (λ t. not (eqb (sent stages i t) t))) ≡ false
unfolding any half across sent stages
all_sent = refl

half_lt : (h i : ℕ) → half h i < 2
unfolding half
half_lt h i = omega arith

half_first : (h k j : ℕ) → j < h → half h (k * (h + h) + j) ≡ 0
unfolding half
half_first h k j l =
    let e : k * (h + h) ≡ (k + k) * h = omega (arith, add-mul k k h, mul-add k h h) in
    let d : (k * (h + h) + j) / h ≡ k + k = rw e (digits_div (k + k) l) in
    rw d (omega arith)

half_second : (h k j : ℕ) → j < h → half h (k * (h + h) + h + j) ≡ 1
unfolding half
half_second h k j l =
    let e : k * (h + h) + h ≡ (k + k + 1) * h = omega (arith, add-mul k k h, mul-add k h h, add-mul (k + k) 1 h, one-mul h) in
    let d : (k * (h + h) + h + j) / h ≡ k + k + 1 = rw e (digits_div (k + k + 1) l) in
    rw d (omega arith)

across_is : (h i t a b : ℕ) → half h i ≡ a → half h t ≡ b → across h i t ≡ i + b * h - a * h
unfolding across
across_is h i t a b p q = rw (p, q)

-- what a case of 0 and a case of 1 show holds of either half
by_half : (h t : ℕ) (P : Type 0) → (half h t ≡ 0 → P) → (half h t ≡ 1 → P) → P
by_half h t P p q = bits (λ b. half h t ≡ b → P) p q (half h t) (half_lt h t) refl

-- ---- the mask of stage h has the places of the first half, and shifted by h those of the second

record Mask (h m : ℕ) : Type 0 where
  low : (t : ℕ) → t < 64 → bit m t + half h t ≡ 1
  high : (t : ℕ) → t < 64 → bit (m * 2 ^ h) t ≡ half h t
  room : (t : ℕ) → t < 64 → (t + (1 - half h t) * h) / 64 ≡ 0

drop_bit : (b d : ℕ) → b < 2 → differ b (min d 0) ≡ b
drop_bit b d h = let e : min d 0 ≡ 0 = omega arith in rw e (bits (λ b. differ b 0 ≡ b) refl refl b h)

take_second : (b d : ℕ) → b < 2 → d < 2 → differ b (min (differ b d) 1) ≡ d
take_second b d h k = bits (λ b. differ b (min (differ b d) 1) ≡ d) (bits (λ d. differ 0 (min (differ 0 d) 1) ≡ d) refl refl d k) (bits (λ d. differ 1 (min (differ 1 d) 1) ≡ d) refl refl d k) b h

take_first : (b d : ℕ) → b < 2 → d < 2 → differ d (min (differ b d) 1) ≡ b
take_first b d h k = bits (λ b. differ d (min (differ b d) 1) ≡ b) (bits (λ d. differ d (min (differ 0 d) 1) ≡ 0) refl refl d k) (bits (λ d. differ d (min (differ 1 d) 1) ≡ 1) refl refl d k) b h

module _ (h m : ℕ) (M : Mask h m) where
  first_room : (t : ℕ) → t < 64 → half h t ≡ 0 → t + h < 64
  first_room t l z = let r : (t + (1 - 0) * h) / 64 ≡ 0 = rw z at (M.room t l) in omega arith

  across_lt : (i t : ℕ) → i < 64 → t < 64 → across h i t < 64
  across_lt i t hi ht =
      by_half h i (across h i t < 64)
      (λ a. by_half h t (across h i t < 64) (λ b. rw (across_is h i t 0 0 a b) (omega arith)) (λ b. rw (across_is h i t 0 1 a b) (omega (arith, first_room i hi a))))
      (λ a. by_half h t (across h i t < 64) (λ b. rw (across_is h i t 1 0 a b) (omega arith)) (λ b. rw (across_is h i t 1 1 a b) (omega arith)))

  module _ (x y : ℕ) where
    apart_bit : (t : ℕ) → bit (apart h m x y) t ≡ min (differ (bit x (h + t)) (bit y t)) (bit m t)
    unfolding apart
    apart_bit t = bit_of_and (bit_xor (x / 2 ^ h) y) m t ∙ ap (λ (d : ℕ). min d (bit m t)) (bit_of_xor (x / 2 ^ h) y t ∙ ap (λ (b : ℕ). differ b (bit y t)) (bit_shr x h t))

    shifted_bit : (t : ℕ) → t < 64 → bit (apart h m x y * 2 ^ h) t ≡ min (differ (bit x t) (bit y (t - h))) (half h t)
    shifted_bit t l = go (dec_lt t h)
      where
        go : Dec (t < h) → bit (apart h m x y * 2 ^ h) t ≡ min (differ (bit x t) (bit y (t - h))) (half h t)
        go (yes a) =
            let z : half h t ≡ 0 = sym (M.high t l) ∙ bit_shl_low m h t a in
            rw z (bit_shl_low (apart h m x y) h t a ∙ omega arith)
        go (no a) =
            let e : h + (t - h) ≡ t = omega arith in
            let k : bit m (t - h) ≡ half h t = sym (bit_shl_high m h (t - h)) ∙ ap (λ (s : ℕ). bit (m * 2 ^ h) s) e ∙ M.high t l in
            ap (λ (s : ℕ). bit (apart h m x y * 2 ^ h) s) (sym e) ∙ bit_shl_high (apart h m x y) h (t - h) ∙ apart_bit (t - h)
            ∙ ap₂ (λ (s b : ℕ). min (differ (bit x s) (bit y (t - h))) b) e k

    lower_bit : (t : ℕ) → t < 64 → bit (lower h m x y) t ≡ differ (bit x t) (min (differ (bit x t) (bit y (t - h))) (half h t))
    unfolding lower
    lower_bit t l = bit_of_xor x (apart h m x y * 2 ^ h % 2 ^ 64) t ∙ ap (differ (bit x t)) (bit_mod (apart h m x y * 2 ^ h) 64 t l ∙ shifted_bit t l)

    upper_bit : (t : ℕ) → bit (upper h m x y) t ≡ differ (bit y t) (min (differ (bit x (h + t)) (bit y t)) (bit m t))
    unfolding upper
    upper_bit t = bit_of_xor y (apart h m x y) t ∙ ap (differ (bit y t)) (apart_bit t)

    lower_0 : (t : ℕ) → t < 64 → half h t ≡ 0 → bit (lower h m x y) t ≡ bit x t
    lower_0 t l z = lower_bit t l ∙ rw z (drop_bit (bit x t) _ (bit_lt x t))

    lower_1 : (t : ℕ) → t < 64 → half h t ≡ 1 → bit (lower h m x y) t ≡ bit y (t - h)
    lower_1 t l o = lower_bit t l ∙ rw o (take_second (bit x t) (bit y (t - h)) (bit_lt x t) (bit_lt y (t - h)))

    upper_0 : (t : ℕ) → t < 64 → half h t ≡ 0 → bit (upper h m x y) t ≡ bit x (h + t)
    upper_0 t l z =
        let e : bit m t ≡ 1 = omega (arith, M.low t l) in
        upper_bit t ∙ rw e (take_first (bit x (h + t)) (bit y t) (bit_lt x (h + t)) (bit_lt y t))

    upper_1 : (t : ℕ) → t < 64 → half h t ≡ 1 → bit (upper h m x y) t ≡ bit y t
    upper_1 t l o =
        let e : bit m t ≡ 0 = omega (arith, M.low t l) in
        upper_bit t ∙ rw e (drop_bit (bit y t) _ (bit_lt y t))

  -- the places of a stage
  module _ (n : ℕ) (old new : List ℕ) (all : n * (h + h) ≡ 64) (S : Stage h m n old new) where
    same_place : (i s t r : ℕ) → i ≡ s → t ≡ r → bit (get_or old i 0) t ≡ bit (get_or old s 0) r
    same_place i s t r p q = ap₂ (λ (i t : ℕ). bit (get_or old i 0) t) p q

    from_first : (k j : ℕ) → k < n → j < h → (t : ℕ) → t < 64
        → bit (get_or new (k * (h + h) + j) 0) t ≡ bit (get_or old (across h (k * (h + h) + j) t) 0) (across h t (k * (h + h) + j))
    from_first k j l p t m =
        let i : ℕ = k * (h + h) + j in
        let z : half h (k * (h + h) + j) ≡ 0 = half_first h k j p in
        ap (λ (w : ℕ). bit w t) (S.first k j l p)
        ∙ by_half h t _
        (λ a. lower_0 _ _ t m a ∙ same_place _ _ _ _ (sym (across_is h i t 0 0 z a ∙ omega arith)) (sym (across_is h t i 0 0 a z ∙ omega arith)))
        (λ a. lower_1 _ _ t m a ∙ same_place _ _ _ _ (sym (across_is h i t 0 1 z a ∙ omega arith)) (sym (across_is h t i 1 0 a z ∙ omega arith)))

    from_second : (k j : ℕ) → k < n → j < h → (t : ℕ) → t < 64
        → bit (get_or new (k * (h + h) + h + j) 0) t ≡ bit (get_or old (across h (k * (h + h) + h + j) t) 0) (across h t (k * (h + h) + h + j))
    from_second k j l p t m =
        let i : ℕ = k * (h + h) + h + j in
        let o : half h (k * (h + h) + h + j) ≡ 1 = half_second h k j p in
        ap (λ (w : ℕ). bit w t) (S.second k j l p)
        ∙ by_half h t _
        (λ a. upper_0 _ _ t m a ∙ same_place _ _ _ _ (sym (across_is h i t 1 0 o a ∙ omega arith)) (sym (across_is h t i 0 1 a o ∙ omega arith)))
        (λ a. upper_1 _ _ t m a ∙ same_place _ _ _ _ (sym (across_is h i t 1 1 o a ∙ omega arith)) (sym (across_is h t i 1 1 a o ∙ omega arith)))

    from : (i t : ℕ) → i < 64 → t < 64 → bit (get_or new i 0) t ≡ bit (get_or old (across h i t) 0) (across h t i)
    from i t l m = by_row (λ i. (t : ℕ) → t < 64 → bit (get_or new i 0) t ≡ bit (get_or old (across h i t) 0) (across h t i)) n (h + h) (λ k r a b. go k r a b (dec_lt r h)) i (omega arith) t m
      where
        go : (k r : ℕ) → k < n → r < h + h → Dec (r < h) → (t : ℕ) → t < 64 → bit (get_or new (k * (h + h) + r) 0) t ≡ bit (get_or old (across h (k * (h + h) + r) t) 0) (across h t (k * (h + h) + r))
        go k r a b (yes c) = from_first k r a c
        go k r a b (no c) =
            let e : k * (h + h) + h + (r - h) ≡ k * (h + h) + r = omega arith in
            subst (λ (i : ℕ). (t : ℕ) → t < 64 → bit (get_or new i 0) t ≡ bit (get_or old (across h i t) 0) (across h t i)) e (from_second k (r - h) a (omega arith))

-- ---- the six stages, the last first

abbrev Sent : List ℕ → List ℕ → List ℕ → Type 0
Sent hs old new = (i t : ℕ) → i < 64 → t < 64 → bit (get_or new i 0) t ≡ bit (get_or old (sent hs i t) 0) (sent hs t i)

sent_none : (old : List ℕ) → Sent [] old old
unfolding sent
sent_none old i t l k = refl

sent_more : (hs old mid new : List ℕ) (h m n : ℕ) → Mask h m → n * (h + h) ≡ 64 → Sent hs old mid → Stage h m n mid new → Sent (h ∷ hs) old new
unfolding sent
sent_more hs old mid new h m n M all F S i t l k =
    from h m M n mid new all S i t l k ∙ F (across h i t) (across h t i) (across_lt h m M i t l k) (across_lt h m M t i k l)

mask_32 : Mask 32 4294967295
unfolding any half bit
mask_32 = record { low = below _ _ 64 refl; high = below _ _ 64 refl; room = below _ _ 64 refl }

mask_16 : Mask 16 281470681808895
unfolding any half bit
mask_16 = record { low = below _ _ 64 refl; high = below _ _ 64 refl; room = below _ _ 64 refl }

mask_8 : Mask 8 71777214294589695
unfolding any half bit
mask_8 = record { low = below _ _ 64 refl; high = below _ _ 64 refl; room = below _ _ 64 refl }

mask_4 : Mask 4 1085102592571150095
unfolding any half bit
mask_4 = record { low = below _ _ 64 refl; high = below _ _ 64 refl; room = below _ _ 64 refl }

mask_2 : Mask 2 3689348814741910323
unfolding any half bit
mask_2 = record { low = below _ _ 64 refl; high = below _ _ 64 refl; room = below _ _ 64 refl }

mask_1 : Mask 1 6148914691236517205
unfolding any half bit
mask_1 = record { low = below _ _ 64 refl; high = below _ _ 64 refl; room = below _ _ 64 refl }

pub transposed_by_stages : (a b c d e f g : List ℕ)
    → Stage 32 4294967295 1 a b → Stage 16 281470681808895 2 b c → Stage 8 71777214294589695 4 c d
    → Stage 4 1085102592571150095 8 d e → Stage 2 3689348814741910323 16 e f → Stage 1 6148914691236517205 32 f g → Transposed a g
unfolding stages
transposed_by_stages a b c d e f g A B C D E F = record {
  long = F.long ∙ E.long ∙ D.long ∙ C.long ∙ B.long ∙ A.long;
  transposed = λ i t l k. all i t l k ∙ ap₂ (λ (i t : ℕ). bit (get_or a i 0) t) (swap i t l k) (swap t i k l);
}
  where
    all : Sent (1 ∷ 2 ∷ 4 ∷ 8 ∷ 16 ∷ 32 ∷ []) a g
    all =
        sent_more _ a f g 1 _ 32 mask_1 refl
        (sent_more _ a e f 2 _ 16 mask_2 refl
        (sent_more _ a d e 4 _ 8 mask_4 refl
        (sent_more _ a c d 8 _ 4 mask_8 refl (sent_more _ a b c 16 _ 2 mask_16 refl (sent_more _ a a b 32 _ 1 mask_32 refl (sent_none a) A) B) C) D) E) F

    swap : (i t : ℕ) → i < 64 → t < 64 → sent stages i t ≡ t
    swap i t l k = below (λ t. sent stages i t) (λ t. t) 64 (any_at (λ i. any 64 (λ t. not (eqb (sent stages i t) t))) 64 all_sent i l) t k
