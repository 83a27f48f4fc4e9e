-- The bytes of words that show a matrix show it too. Assumes nothing.
use mathlib.Core.Path.{◌≡◌, sym, ap, ◌∙◌}
use mathlib.Core.List.{List}
use Prim.Native.Nat.{ℕ, suc, ◌*◌, ◌/◌, ◌^◌, ◌<◌}
use native.Mathlib.Decide.{dec_lt}
use native.Mathlib.Omega.{arith}
use lib.ListN.{length, get_or, get_or-eq_default}
use Rattle.cells.specs.Digit.{Matrix}
use Rattle.buffers.specs.Buffer.{words, Words, encode}
use Rattle.buffers.specs.Shows.{Shows}
use Rattle.buffers.proofs.BufferLaws.{encode_words, encode_shows}
use Rattle.wordbytes.specs.Bytes.{value_of, words_in, bytes_of}
use Rattle.wordbytes.specs.ShowsBytes.{AllBytes, ShowsBytes}
use Rattle.wordbytes.proofs.ByteLaws.{words_length, bytes_length, word_at_lem, words_bytes, bytes_words}

-- eight bytes are a word
eight_fit : (bs : List ℕ) (x : ℕ) → AllBytes bs → value_of bs x 8 < 2 ^ 64
unfolding value_of
eight_fit bs x h =
    omega (arith, h x, h (suc x), h (suc (suc x)), h (suc (suc (suc x))), h (suc (suc (suc (suc x)))), h (suc (suc (suc (suc (suc x))))), h (suc (suc (suc (suc (suc (suc x)))))), h (suc (suc (suc (suc (suc (suc (suc x))))))))

pub words_fit : (bs : List ℕ) → AllBytes bs → Words (words_in bs)
words_fit bs h n = go (dec_lt n (length bs / 8))
  where
    go : Dec (n < length bs / 8) → get_or (words_in bs) n 0 < 2 ^ 64
    go (yes l) = rw (word_at_lem bs n l) (eight_fit bs (8 * n) h)
    go (no l) = rw (get_or-eq_default (words_in bs) 0 {n = n} (omega (arith, words_length bs))) (omega arith)

pub bytes_show : (r c : ℕ) (M : Matrix) (ws : List ℕ) → Words ws → Shows r c M ws → ShowsBytes r c M (bytes_of ws)
bytes_show r c M ws fits S =
    let back : words_in (bytes_of ws) ≡ ws = words_bytes ws fits in
    record {
      long = bytes_length ws ∙ ap (λ (n : ℕ). 8 * n) S.legal.long;
      legal = rw back S.legal;
      digits = rw back S.digits;
      only = λ vs small long L same. sym (bytes_words vs (words r c) small long) ∙ ap bytes_of (S.only (words_in vs) L (words_fit vs small) same);
    }

-- an encoding of digits, in bytes
pub encode_shows_bytes : (r c : ℕ) (M : Matrix) → ((i j : ℕ) → i < r → j < c → M i j < 3) → ShowsBytes r c M (bytes_of (encode r c M))
encode_shows_bytes r c M d = bytes_show r c M (encode r c M) (encode_words r c M) (encode_shows r c M d)
