-- Theorem: the words of the witness are legal and hold it, and `total` answers of them what `quote` answers. Assumes nothing.
use mathlib.Core.Path.{◌≡◌, refl, sym, ap, ◌∙◌}
use mathlib.Core.List.{List, [], ◌++◌}
use Prim.Native.Nat.{ℕ, ◌+◌, ◌-◌, ◌*◌, ◌%◌, ◌^◌, ◌≤◌, ◌<◌, min}
use native.Mathlib.Nat.{mod-lt}
use native.Mathlib.Omega.{arith}
use lib.ListN.{length}
use lib.Pow.{pow_pos}
use borrow.Author.Tests.{le-ltb}
use Rattle.cells.specs.Any.{any}
use Rattle.cells.specs.Bit.{bit, word_of}
use Rattle.cells.specs.Digit.{unit_of, sign_of}
use Rattle.cells.proofs.AnyLaws.{below}
use Rattle.cells.proofs.EncodeLaws.{unit_lt, sign_lt}
use Rattle.cells.proofs.MaskLaws.{low_in}
use Rattle.cells.proofs.WordLaws.{word_of_unique, bit_mod}
use Rattle.buffers.specs.Buffer.{planes, cell, Legal, Words, tab, joined, plane, encode}
use Rattle.buffers.specs.Shows.{Shows}
use Rattle.buffers.proofs.BufferLaws.{tests_legal, encode_words, encode_shows}
use Rattle.requests.specs.declared.Size.{Size}
use Rattle.requests.specs.Answers.{first, left, answered}
use Rattle.requests.specs.Faults.{faults}
use Rattle.requests.proofs.SizeLaws.{not_over, not_unfit}
use Rattle.requests.proofs.AnswerLaws.{finished, none_first, append_same}
use Rattle.steps.specs.Count.{quote, total}
use Rattle.steps.specs.Witness.{witness}
use Rattle.steps.proofs.Same.{steps_same}
use Rattle.steps.proofs.Witness.{witness_digits, witness_meets}
use Rattle.matrix.specs.Job.{meant, total_of}
use Rattle.matrix.specs.Quote.{quote_tests, quote_means}
use Rattle.matrix.specs.Total.{total_tests, total_means}
use Rattle.matrix.specs.Witness.{cut, witness_words}
use Rattle.matrix.proofs.JobLaws.{meant_pos}

-- ---- its words

-- a word cut to n places has the bits of the uncut one
cut_word : (f : ℕ → ℕ) (n v : ℕ) → n ≤ 64 → ((t : ℕ) → f t < 2) → ((t : ℕ) → t < 64 → bit v t ≡ f t) → word_of f n ≡ v % 2 ^ n
cut_word f n v le small same =
    sym (word_of_unique f n (v % 2 ^ n) small (mod-lt v (pow_pos n)) (λ t lt. bit_mod v n t lt ∙ same t (omega arith)))

cut_plane : (f : ℕ → ℕ) (c v : ℕ) → ((j : ℕ) → f j < 2) → ((p t : ℕ) → t < 64 → bit v t ≡ f (64 * p + t)) → plane c f ≡ cut c v
unfolding plane cut
cut_plane f c v small same k = tab (planes c) (λ p. cut_word (λ t. f (64 * p + t)) (min 64 (c - 64 * p)) v (omega arith) (λ t. small (64 * p + t)) (same p) k)

-- the odd places of 0xaaaaaaaaaaaaaaaa
odd_places : (t : ℕ) → t < 64 → bit 12297829382473034410 t ≡ t % 2
unfolding any bit
odd_places = below (bit 12297829382473034410) (λ t. t % 2) 64 refl

pub witness_words_lem : (s : Size) → encode s.rows s.columns witness ≡ witness_words s
unfolding encode witness_words
witness_words_lem s k = joined s.rows (λ i. units i k ++ signs i k)
  where
    units : (i : ℕ) → plane s.columns (λ j. unit_of (witness i j)) ≡ cut s.columns 18446744073709551615
    units i = cut_plane _ s.columns _ (λ j. unit_lt (witness i j)) (λ p t lt. low_in 64 t lt ∙ unfold witness unit_of in omega arith)

    signs : (i : ℕ) → plane s.columns (λ j. sign_of (witness i j)) ≡ cut s.columns 12297829382473034410
    signs i = cut_plane _ s.columns _ (λ j. sign_lt (witness i j)) (λ p t lt. odd_places t lt ∙ unfold witness sign_of in omega arith)

pub witness_shows : (s : Size) → Shows s.rows s.columns witness (witness_words s)
witness_shows s = rw (← witness_words_lem s) (encode_shows s.rows s.columns witness (witness_digits s.rows s.columns))

-- ---- what the two requests answer

witness_total : (x : Size) (w : ℕ) → total_of x (meant x w) (witness_words x) ≡ quote x.rows x.columns (meant x w)
unfolding total
witness_total x w =
    ap length (steps_same x.rows x.columns (meant x w) (cell x.columns (witness_words x)) witness (meant_pos x w) (witness_shows x).digits)
    ∙ witness_meets x.rows x.columns (meant x w)

same_word : (x : Size) (w : ℕ) → first (total_tests x w (witness_words x)) ≡ first (quote_tests x w)
unfolding total_tests quote_tests faults
same_word x w =
    let L = (witness_shows x).legal in
    let t = tests_legal x.rows x.columns (witness_words x) L in
    append_same (quote_tests x w) _ [] (none_first _ (not_unfit x (length (witness_words x)) L.long, (t.0, (t.1, tt))) ∙ sym (none_first [] tt))

-- for every size and width: done alike, and refused alike
pub witness_answers : (x : Size) (w : ℕ) → total_means x w (witness_words x) ≡ quote_means x w
unfolding total_means quote_means answered
witness_answers x w k = (same_word x w k, left (same_word x w k) 0 (witness_total x w k))

-- within the limits both are done
pub witness_done : (x : Size) (w : ℕ) → x.rows ≤ 1024 → x.columns ≤ 1024 → w ≤ 8
    → (quote_means x w ≡ (0, quote x.rows x.columns (meant x w))) × (total_means x w (witness_words x) ≡ (0, quote x.rows x.columns (meant x w)))
unfolding quote_means quote_tests
witness_done x w hm hl hw =
    let q = sym (finished (quote_tests x w) 0 (quote x.rows x.columns (meant x w)) _ (none_first (quote_tests x w) (not_over x hm hl, (le-ltb 8 w hw, tt))) refl) in
    (q, witness_answers x w ∙ q)

-- no number below the quote's answer is safe: what is at least the total of every legal buffer is at least that
pub no_lower_answer : (x : Size) (w q : ℕ) → ((a : List ℕ) → Legal x.rows x.columns a → Words a → (total_means x w a).1 ≤ q) → (quote_means x w).1 ≤ q
no_lower_answer x w q safe =
    rw (← witness_answers x w) (safe (witness_words x) (witness_shows x).legal (rw (← witness_words_lem x) (encode_words x.rows x.columns witness)))
