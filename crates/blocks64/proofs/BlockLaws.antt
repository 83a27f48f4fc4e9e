-- Words at equal distances: written one after another, and transposed. Assumes nothing.
use mathlib.Core.Path.{◌≡◌, refl, sym, ap, ◌∙◌}
use mathlib.Core.List.{List}
use Prim.Native.Nat.{ℕ, zero, suc, ◌+◌, ◌*◌, ◌^◌, ◌≤◌, ◌<◌}
use native.Mathlib.Decide.{dec_lt}
use native.Mathlib.Omega.{arith}
use lib.ListN.{length, get_or, set, length-set}
use lib.Pow.{pow_mono}
use lib.Seq.{get_or-set_same, get_or-set_other}
use Rattle.cells.specs.Bit.{bit, word_of}
use Rattle.cells.proofs.BitLaws.{bit_lt}
use Rattle.cells.proofs.WordLaws.{word_of_lt, word_of_bit, bit_high, bit_of_zero, ext}
use Rattle.buffers.specs.Buffer.{tab}
use Rattle.rows.specs.Row.{Written}
use Rattle.blocks64.specs.Transpose.{Transposed}
use Rattle.blocks64.specs.Block.{transposed_word, Spread}
use Rattle.blocks64.proofs.ExchangeLaws.{part_ends}

pub spread_none : (f : ℕ → ℕ) (x w : ℕ) (old : List ℕ) → Spread f x w 0 old old
spread_none f x w old = record { long = refl; spread = λ t l. absurd (omega arith); kept = λ k h. refl }

pub spread_next : (f : ℕ → ℕ) (x w n at v : ℕ) (old mid : List ℕ) → 0 < w → at ≡ x + n * w → at < length mid → v ≡ f n → Spread f x w n old mid → Spread f x w (n + 1) old (set mid at v)
spread_next f x w n at v old mid pos e room same S = record {
  long = simp length-set S.long;
  spread = λ t l. go t l (dec_lt t n);
  kept = λ k h. get_or-set_other mid at k v 0 (λ d. h n (omega arith) (d ∙ e)) ∙ S.kept k (λ t l. h t (omega arith));
}
  where
    go : (t : ℕ) → t < n + 1 → Dec (t < n) → get_or (set mid at v) (x + t * w) 0 ≡ f t
    go t l (yes h) = get_or-set_other mid at (x + t * w) v 0 (λ d. omega (arith, part_ends w t n h)) ∙ S.spread t h
    go t l (no h) =
        let d : t ≡ n = omega arith in
        rw (d, ← e) (get_or-set_same mid at v 0 room ∙ same)

pub spread_cong : (f g : ℕ → ℕ) (x w n : ℕ) (old new : List ℕ) → ((t : ℕ) → t < n → f t ≡ g t) → Spread f x w n old new → Spread g x w n old new
spread_cong f g x w n old new same S = record { long = S.long; spread = λ t l. S.spread t l ∙ same t l; kept = S.kept }

-- a block of n words, and of zeros from there on, that is transposed
pub transposed_word_lem : (a : List ℕ) (x w n : ℕ) (none block new : List ℕ) → n ≤ 64 → ((t : ℕ) → get_or none t 0 ≡ 0) → Written (λ t. get_or a (x + t * w) 0) 0 n none block → Transposed block new
    → (t : ℕ) → t < 64 → get_or new t 0 < 2 ^ 64 → get_or new t 0 ≡ transposed_word a x w n t
unfolding transposed_word
transposed_word_lem a x w n none block new h zeros W T t l fits = ext 64 _ _ fits (omega (arith, word_of_lt f n small, pow_mono h)) (λ s k. T.transposed t s l k ∙ go s (dec_lt s n))
  where
    f : ℕ → ℕ
    f s = bit (get_or a (x + s * w) 0) t

    small : (s : ℕ) → f s < 2
    small s = bit_lt _ t

    go : (s : ℕ) → Dec (s < n) → bit (get_or block s 0) t ≡ bit (word_of f n) s
    go s (yes k) =
        let z : 0 + s ≡ s = omega arith in
        ap (λ (b : ℕ). bit b t) (rw z at (W.written s k)) ∙ sym (word_of_bit f n s small k)
    go s (no k) =
        ap (λ (b : ℕ). bit b t) (W.after s (omega arith) ∙ zeros s) ∙ bit_of_zero t ∙ sym (bit_high n (word_of f n) s (word_of_lt f n small) (omega arith))

-- a block as it is made
pub zeros_at : (n t : ℕ) → get_or (tab n (λ i. 0)) t 0 ≡ 0
unfolding tab
zeros_at zero t = refl
zeros_at (suc n) zero = refl
zeros_at (suc n) (suc t) = zeros_at n t
