-- Words and their bytes: either is had back from the other. Assumes nothing.
use mathlib.Core.Path.{◌≡◌, refl, sym, ap, ap₂, ◌∙◌}
use mathlib.Core.List.{List, ◌++◌}
use Prim.Native.Nat.{ℕ, zero, suc, ◌+◌, ◌-◌, ◌*◌, ◌/◌, ◌%◌, ◌^◌, ◌≤◌, ◌<◌}
use native.Mathlib.Decide.{dec_lt}
use native.Mathlib.Omega.{arith}
use lib.Pow.{shr-shr, shr_lt}
use lib.ListN.{length, get_or, set, take, drop, length-take, get_or-append}
use borrow.Rule.Slice.PartMut.{put_mid, post_of}
use Rattle.std.proofs.lemmas.List.{get_or-take, get_or-drop, get_or-append_right}
use Rattle.std.specs.Int.{w64, to_le_bytes, from_le_bytes}
use lib.Seq.{get_or-set_same, get_or-set_other, ext_get_or}
use Rattle.buffers.specs.Buffer.{Words, tab}
use Rattle.buffers.proofs.BufferLaws.{length_tab, get_d_tab}
use Rattle.rows.specs.Row.{Written}
use Rattle.rows.proofs.RowLaws.{written_none, written_next}
use Rattle.wordbytes.specs.Bytes.{byte_of, value_of, words_in, bytes_of}

-- ---- one word

-- a word without its lowest j bytes
pub byte_later : (w j k : ℕ) → byte_of (w / 2 ^ (8 * j)) k ≡ byte_of w (j + k)
unfolding byte_of
byte_later w j k =
    let e : 8 * j + 8 * k ≡ 8 * (j + k) = omega arith in
    rw (← e, ← shr-shr w (8 * j) (8 * k))

byte_first : (d v : ℕ) → d < 256 → byte_of (d + 256 * v) 0 ≡ d
unfolding byte_of
byte_first d v h = omega arith

byte_next : (d v k : ℕ) → d < 256 → byte_of (d + 256 * v) (suc k) ≡ byte_of v k
byte_next d v k h =
    let q : (d + 256 * v) / 2 ^ (8 * 1) ≡ v = omega arith in
    let e : 1 + k ≡ suc k = omega arith in
    ap (byte_of (d + 256 * v)) (sym e) ∙ sym (byte_later (d + 256 * v) 1 k) ∙ ap (λ (u : ℕ). byte_of u k) q

byte_rest : (w : ℕ) → byte_of w 0 + 256 * (w / 2 ^ (8 * 1)) ≡ w
unfolding byte_of
byte_rest w = omega arith

-- each of the eight bytes that std gives for a word
own_byte : (w k : ℕ) → k < 8 → get_or (to_le_bytes w64 w) k 0 ≡ byte_of w k
unfolding byte_of
own_byte w zero l = omega arith
own_byte w (suc zero) l = refl
own_byte w (suc (suc zero)) l = refl
own_byte w (suc (suc (suc zero))) l = refl
own_byte w (suc (suc (suc (suc zero)))) l = refl
own_byte w (suc (suc (suc (suc (suc zero))))) l = refl
own_byte w (suc (suc (suc (suc (suc (suc zero)))))) l = refl
own_byte w (suc (suc (suc (suc (suc (suc (suc zero))))))) l = refl
own_byte w (suc (suc (suc (suc (suc (suc (suc (suc k)))))))) l = absurd (omega arith)

-- ---- the number that bytes say

pub four_bytes : (bs : List ℕ) (x : ℕ) → value_of bs x 4 ≡ get_or bs x 0 + 256 * get_or bs (x + 1) 0 + 65536 * get_or bs (x + 2) 0 + 16777216 * get_or bs (x + 3) 0
unfolding value_of
four_bytes bs x =
    let a : x + 1 ≡ suc x = omega arith in
    let b : x + 2 ≡ suc (suc x) = omega arith in
    let d : x + 3 ≡ suc (suc (suc x)) = omega arith in
    rw (a, b, d) (omega arith)

-- eight bytes are four, and four above them
pub two_fours : (bs : List ℕ) (x : ℕ) → value_of bs x 8 ≡ value_of bs x 4 + 4294967296 * value_of bs (x + 4) 4
unfolding value_of
two_fours bs x =
    let a : x + 4 ≡ suc (suc (suc (suc x))) = omega arith in
    rw a (omega arith)

-- std's number of eight bytes
pub eight_bytes : (bs : List ℕ) (x n : ℕ) (eight : List ℕ) (w : ℕ) → n ≡ 8 → eight ≡ take n (drop x bs) → w ≡ from_le_bytes w64 eight → w ≡ value_of bs x 8
unfolding value_of
eight_bytes bs x n eight w m e h =
    let byte : (k i : ℕ) → k < 8 → x + k ≡ i → get_or eight k 0 ≡ get_or bs i 0 = λ k i l a. rw (e, m, ← a) (get_or-take 8 (drop x bs) k 0 l ∙ get_or-drop x bs k 0) in
    let sum : w ≡ get_or eight 0 0 + get_or eight 1 0 * 256 + get_or eight 2 0 * 65536 + get_or eight 3 0 * 16777216 + get_or eight 4 0 * 4294967296 + get_or eight 5 0 * 1099511627776 + get_or eight 6 0 * 281474976710656 + get_or eight 7 0 * 72057594037927936 = h in
    omega (arith, sum, byte 0 x (omega arith) (omega arith), byte 1 (suc x) (omega arith) (omega arith), byte 2 (suc (suc x)) (omega arith) (omega arith), byte 3 (suc (suc (suc x))) (omega arith) (omega arith), byte 4 (suc (suc (suc (suc x)))) (omega arith) (omega arith), byte 5 (suc (suc (suc (suc (suc x))))) (omega arith) (omega arith), byte 6 (suc (suc (suc (suc (suc (suc x)))))) (omega arith) (omega arith), byte 7 (suc (suc (suc (suc (suc (suc (suc x))))))) (omega arith) (omega arith))

-- the n bytes from byte x on are the lowest of w
abbrev pub Says : List ℕ → ℕ → ℕ → ℕ → Type 0
Says bs x n w = (k : ℕ) → k < n → get_or bs (x + k) 0 ≡ byte_of w k

pub value_said : (bs : List ℕ) (x n w : ℕ) → Says bs x n w → w < 2 ^ (8 * n) → value_of bs x n ≡ w
unfolding value_of
value_said bs x zero w h small = omega arith
value_said bs x (suc n) w h small =
    let a : x + 0 ≡ x = omega arith in
    let b : 8 * n + 8 ≡ 8 * suc n = omega arith in
    let first : get_or bs x 0 ≡ byte_of w 0 = ap (λ (i : ℕ). get_or bs i 0) (sym a) ∙ h 0 (omega arith) in
    let rest : value_of bs (suc x) n ≡ w / 2 ^ (8 * 1) =
    value_said bs (suc x) n (w / 2 ^ (8 * 1)) (λ k l. (let e : suc x + k ≡ x + (1 + k) = omega arith in ap (λ (i : ℕ). get_or bs i 0) e ∙ h (1 + k) (omega arith) ∙ sym (byte_later w 1 k))) (shr_lt (8 * n) 8 (rw b small)) in
    rw (first, rest) (byte_rest w)

-- each of the n bytes from byte x on is one
pub byte_value : (bs : List ℕ) (x n : ℕ) → ((k : ℕ) → get_or bs k 0 < 256) → (k : ℕ) → k < n → byte_of (value_of bs x n) k ≡ get_or bs (x + k) 0
unfolding value_of
byte_value bs x zero h k l = absurd (omega arith)
byte_value bs x (suc n) h zero l =
    let a : x + 0 ≡ x = omega arith in
    rw a (byte_first (get_or bs x 0) (value_of bs (suc x) n) (h x))
byte_value bs x (suc n) h (suc k) l =
    let e : x + suc k ≡ suc x + k = omega arith in
    rw e (byte_next (get_or bs x 0) (value_of bs (suc x) n) k (h x) ∙ byte_value bs (suc x) n h k (omega arith))

-- ---- buffers, filled from the front

-- the first n elements are those of f
abbrev pub Filled : (ℕ → ℕ) → ℕ → List ℕ → Type 0
Filled f n t = (i : ℕ) → i < n → get_or t i 0 ≡ f i

pub filled_none : (f : ℕ → ℕ) (t : List ℕ) → Filled f 0 t
filled_none f t i l = absurd (omega arith)

pub filled_next : (f : ℕ → ℕ) (k : ℕ) (t : List ℕ) (v : ℕ) → k < length t → v ≡ f k → Filled f k t → Filled f (k + 1) (set t k v)
filled_next f k t v room e h i l = go (dec_lt i k)
  where
    go : Dec (i < k) → get_or (set t k v) i 0 ≡ f i
    go (yes m) = get_or-set_other t k i v 0 (λ d. omega arith) ∙ h i m
    go (no m) =
        let d : i ≡ k = omega arith in
        rw d (get_or-set_same t k v 0 room ∙ e)

pub filled_all : (f : ℕ → ℕ) (n : ℕ) (t : List ℕ) → length t ≡ n → Filled f n t → t ≡ tab n f
filled_all f n t long h = ext_get_or 0 t (tab n f) (long ∙ sym (length_tab n f)) (λ i l. h i (omega arith) ∙ sym (get_d_tab n f i (omega arith)))

-- word p of a buffer of bytes, and byte i of a buffer of words
abbrev pub word_at : List ℕ → ℕ → ℕ
word_at bs p = value_of bs (8 * p) 8

abbrev pub byte_at : List ℕ → ℕ → ℕ
byte_at ws i = byte_of (get_or ws (i / 8) 0) (i % 8)

pub read_all : (bs ws : List ℕ) → length bs ≡ 8 * length ws → Filled (word_at bs) (length ws) ws → ws ≡ words_in bs
unfolding words_in
read_all bs ws long h =
    let e : length bs / 8 ≡ length ws = omega arith in
    rw e (filled_all (word_at bs) (length ws) ws refl h)

pub written_all : (ws bs : List ℕ) → length bs ≡ 8 * length ws → Filled (byte_at ws) (8 * length ws) bs → bs ≡ bytes_of ws
unfolding bytes_of
written_all ws bs long h = filled_all (byte_at ws) (8 * length ws) bs long h

-- one more word is written, as the eight bytes that are its own
pub put_word : (ws bs : List ℕ) (p n : ℕ) (eight : List ℕ) → 8 * p + 8 ≤ length bs → eight ≡ to_le_bytes w64 (get_or ws p 0) → Filled (byte_at ws) (8 * p) bs → Filled (byte_at ws) (8 * (p + 1)) (put_mid (8 * p) n bs eight)
put_word ws bs p n eight room e h i l = go (dec_lt i (8 * p))
  where
    go : Dec (i < 8 * p) → get_or (put_mid (8 * p) n bs eight) i 0 ≡ byte_at ws i
    go (yes m) = get_or-append (take (8 * p) bs) (eight ++ post_of (8 * p) n bs) 0 i (omega (arith, length-take (8 * p) bs)) ∙ get_or-take (8 * p) bs i 0 m ∙ h i m
    go (no m) =
        let d : i / 8 ≡ p = omega arith in
        let r : i % 8 ≡ i - 8 * p = omega arith in
        let own : get_or eight (i - 8 * p) 0 ≡ byte_of (get_or ws p 0) (i - 8 * p) = rw e (own_byte (get_or ws p 0) (i - 8 * p) (omega arith)) in
        rw (d, r) (get_or-append_right (take (8 * p) bs) (eight ++ post_of (8 * p) n bs) (8 * p) i 0 (omega (arith, length-take (8 * p) bs)) (omega arith) ∙ get_or-append eight (post_of (8 * p) n bs) 0 (i - 8 * p) (omega (arith, ap length e)) ∙ own)

-- ---- lengths

pub words_length : (bs : List ℕ) → length (words_in bs) ≡ length bs / 8
unfolding words_in
words_length bs = length_tab (length bs / 8) (word_at bs)

pub bytes_length : (ws : List ℕ) → length (bytes_of ws) ≡ 8 * length ws
unfolding bytes_of
bytes_length ws = length_tab (8 * length ws) (byte_at ws)

pub word_at_lem : (bs : List ℕ) (p : ℕ) → p < length bs / 8 → get_or (words_in bs) p 0 ≡ value_of bs (8 * p) 8
unfolding words_in
word_at_lem bs p l = get_d_tab (length bs / 8) (word_at bs) p l

pub byte_at_lem : (ws : List ℕ) (i : ℕ) → i < 8 * length ws → get_or (bytes_of ws) i 0 ≡ byte_of (get_or ws (i / 8) 0) (i % 8)
unfolding bytes_of
byte_at_lem ws i l = get_d_tab (8 * length ws) (byte_at ws) i l

-- ---- either is had back from the other

pub words_bytes : (ws : List ℕ) → Words ws → words_in (bytes_of ws) ≡ ws
words_bytes ws small = sym (read_all (bytes_of ws) ws (bytes_length ws) (λ p l. sym (value_said (bytes_of ws) (8 * p) 8 (get_or ws p 0) (λ k m. said p k l m) (small p))))
  where
    said : (p k : ℕ) → p < length ws → k < 8 → get_or (bytes_of ws) (8 * p + k) 0 ≡ byte_of (get_or ws p 0) k
    said p k l m =
        let d : (8 * p + k) / 8 ≡ p = omega arith in
        let r : (8 * p + k) % 8 ≡ k = omega arith in
        byte_at_lem ws (8 * p + k) (omega arith) ∙ ap₂ (λ (q j : ℕ). byte_of (get_or ws q 0) j) d r

pub bytes_words : (bs : List ℕ) (n : ℕ) → ((k : ℕ) → get_or bs k 0 < 256) → length bs ≡ 8 * n → bytes_of (words_in bs) ≡ bs
bytes_words bs n small long = sym (written_all (words_in bs) bs (omega (arith, words_length bs)) (λ i l. sym (at i (omega (arith, words_length bs)))))
  where
    at : (i : ℕ) → i < 8 * n → byte_at (words_in bs) i ≡ get_or bs i 0
    at i l =
        let e : 8 * (i / 8) + i % 8 ≡ i = omega arith in
        ap (λ (w : ℕ). byte_of w (i % 8)) (word_at_lem bs (i / 8) (omega arith)) ∙ byte_value bs (8 * (i / 8)) 8 small (i % 8) (omega arith) ∙ ap (λ (j : ℕ). get_or bs j 0) e

-- ---- stores

pub two_written : (w x : ℕ) (old : List ℕ) → x + 2 ≤ length old → Written (byte_of w) x 2 old (set (set old x (w % 256)) (x + 1) (w / 2 ^ 8 % 256))
unfolding byte_of
two_written w x old room =
    let a : x + 0 ≡ x = omega arith in
    let one : Written (byte_of w) x 1 old (set old (x + 0) (w % 256)) = written_next (byte_of w) x 0 old old (w % 256) (omega arith) (omega arith) (written_none (byte_of w) x old) in
    let two : Written (byte_of w) x 2 old (set (set old (x + 0) (w % 256)) (x + 1) (w / 2 ^ 8 % 256)) = written_next (byte_of w) x 1 old (set old (x + 0) (w % 256)) (w / 2 ^ 8 % 256) (omega (arith, one.long)) refl one in
    rw a at two
