-- A buffer that is written from its beginning on, part after part. Assumes nothing.
use mathlib.Core.Path.{◌≡◌, refl, sym, ap, ap₂, ◌∙◌}
use mathlib.Core.Bool.{not}
use mathlib.Core.List.{List, [], ◌∷◌, ◌++◌, append_assoc, append-nil}
use Prim.Native.Nat.{ℕ, zero, suc, ◌+◌, ◌*◌, ◌≤◌, ◌<◌}
use native.Mathlib.Omega.{arith}
use lib.Dec.{ltb}
use lib.ListN.{length, take, drop, length-append, length-drop, drop_of_length-le}
use lib.Seq.{take_at, drop_at, drop-drop}
use borrow.Author.Tests.{lt-ltb, le-ltb}
use Rattle.buffers.specs.Buffer.{tab, joined}
use Rattle.buffers.proofs.BufferLaws.{length_joined}
use Rattle.hexadecimal.specs.Line.{hex_of}
use Rattle.texts.specs.Multiply.{refusal, laid, placed}

pub laid_length : (text out : List ℕ) → length text ≤ length out → length (laid text out) ≡ length out
unfolding laid
laid_length text out h = length-append text (drop (length text) out) ∙ omega (arith, length-drop (length text) out)

pub laid_all : (text out : List ℕ) → length text ≡ length out → laid text out ≡ text
unfolding laid
laid_all text out e = ap (λ (l : List ℕ). text ++ l) (drop_of_length-le out {i = length text} (omega arith)) ∙ append-nil text

pub laid_front : (text out : List ℕ) (n : ℕ) → length text ≡ n → take n (laid text out) ≡ text
unfolding laid
laid_front text out n e = take_at text (drop (length text) out) n e

-- the part that comes right after a text is lent, and comes back as ys
pub laid_more : (text ys out : List ℕ) (n k : ℕ) → length text ≡ n → length ys ≡ k → take n (laid text out) ++ (ys ++ drop k (drop n (laid text out))) ≡ laid (text ++ ys) out
unfolding laid
laid_more text ys out n k e f =
    let p : take n (text ++ drop (length text) out) ≡ text = take_at text (drop (length text) out) n e in
    let q : drop n (text ++ drop (length text) out) ≡ drop (length text) out = drop_at text (drop (length text) out) n e in
    let s : length text + k ≡ length (text ++ ys) = omega (arith, length-append text ys) in
    let r : drop k (drop (length text) out) ≡ drop (length (text ++ ys)) out = drop-drop k (length text) out ∙ ap (λ (d : ℕ). drop d out) s in
    ap₂ (λ (s d : List ℕ). s ++ (ys ++ drop k d)) p q ∙ ap (λ (d : List ℕ). text ++ (ys ++ d)) r ∙ sym (append_assoc text ys (drop (length (text ++ ys)) out))

pub joined_more : (f : ℕ → List ℕ) (i : ℕ) → joined (i + 1) f ≡ joined i f ++ f i
unfolding joined
joined_more f zero = append-nil (f 0)
joined_more f (suc i) =
    let e : suc i + 1 ≡ suc (i + 1) = omega arith in
    rw e (ap (λ (l : List ℕ). f 0 ++ l) (joined_more (λ j. f (suc j)) i) ∙ sym (append_assoc (f 0) (joined i (λ j. f (suc j))) (f (suc i))))

-- parts of one length, one after another: part i is lent, and comes back as f i
pub joined_laid : (f : ℕ → List ℕ) (i k e : ℕ) (held old part : List ℕ) → ((j : ℕ) → length (f j) ≡ k) → e ≡ k → held ≡ laid (joined i f) old → part ≡ f i
    → take (i * k) held ++ (part ++ drop e (drop (i * k) held)) ≡ laid (joined (i + 1) f) old
joined_laid f i k e held old part long d h g =
    rw h (laid_more (joined i f) part old (i * k) e (length_joined i k f long) (ap length g ∙ long i ∙ sym d))
    ∙ ap (λ (l : List ℕ). laid l old) (ap (λ (l : List ℕ). joined i f ++ l) g ∙ sym (joined_more f i))

-- with room for it and without
pub roomy : (text out : List ℕ) (n : ℕ) (new : List ℕ) → length text ≤ length out → n ≡ length text → new ≡ laid text out → ◌≡◌ {A = ℕ × List ℕ} (n, new) (placed (not (ltb (length out) (length text))) text out)
unfolding placed
roomy text out n new h e f = rw (le-ltb (length out) (length text) h) (ap₂ (λ (m : ℕ) (l : List ℕ). (m, l)) e f)

pub cramped : (text out : List ℕ) → length out < length text → ◌≡◌ {A = ℕ × List ℕ} (0, out) (placed (not (ltb (length out) (length text))) text out)
unfolding placed
cramped text out h = rw (lt-ltb (length out) (length text) h)

abbrev pub refused_word : List ℕ
refused_word = 114 ∷ 101 ∷ 102 ∷ 117 ∷ 115 ∷ 101 ∷ 100 ∷ 32 ∷ []

pub refusal_long : (n : ℕ) → length (refusal n) ≡ 11
unfolding refusal hex_of tab
refusal_long n = refl

-- the eight bytes, and then a line of two digits
pub refusal_laid : (n : ℕ) (out line : List ℕ) → line ≡ hex_of 2 n ++ (10 ∷ []) → take 8 (laid refused_word out) ++ (line ++ drop 3 (drop 8 (laid refused_word out))) ≡ laid (refusal n) out
unfolding refusal hex_of tab
refusal_laid n out line e = laid_more refused_word line out 8 3 refl (ap length e) ∙ ap (λ (l : List ℕ). laid (refused_word ++ l) out) e
