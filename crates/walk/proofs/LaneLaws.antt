-- The steps of many blocks at once, from the lanes of a word pair. Assumes nothing.
use mathlib.Core.Path.{◌≡◌, refl, sym, ap, ap₂, subst, ◌∙◌}
use mathlib.Core.List.{List}
use Prim.Native.Nat.{ℕ, zero, suc, ◌+◌, ◌-◌, ◌*◌, ◌/◌, ◌%◌, ◌^◌, ◌≤◌, ◌<◌, min}
use native.Mathlib.Nat.{suc-mul, mul-le-mul_left, mul-le-mul_right, div-mul-le_self, le-div_iff_mul-le}
use native.Mathlib.Numerals.{add-one}
use native.Mathlib.Decide.{dec_lt}
use native.Mathlib.Omega.{arith}
use lib.Pow.{pow_mono}
use lib.Bits.{bit_xor, differ, and_mask, mask_lt}
use lib.ListN.{length}
use Rattle.cells.specs.Bit.{bit, word_of}
use Rattle.cells.specs.Counts.{sum, is, bits_of}
use Rattle.cells.specs.Digit.{Matrix}
use Rattle.cells.specs.Pair.{LegalPair}
use Rattle.cells.specs.Lanes.{filled, InLanes}
use Rattle.cells.specs.declared.Cells.{Cells}
use Rattle.cells.specs.declared.lanes.Lanes.{Lanes}
use Rattle.cells.proofs.BitLaws.{bit_of_xor}
use Rattle.cells.proofs.WordLaws.{bit_shr, bit_mod, bit_high, ext, word_of_lt, word_of_bit}
use Rattle.cells.proofs.CountLaws.{is_le}
use Rattle.cells.proofs.PairLaws.{cases}
use Rattle.cells.proofs.SumLaws.{sum_add, sum_last, sum_le, sum_same}
use Rattle.buffers.specs.Buffer.{planes, wide, bit_at, unit, sign, cell, Legal, Words}
use Rattle.buffers.proofs.SizeLaws.{planes_room, words_le, row_fits, unit_small}
use Rattle.rows.specs.Wide.{one_word, two_words, of_one, of_two}
use Rattle.rows.proofs.WideLaws.{one_in, one_out, two_in}
use Rattle.steps.specs.StepList.{P, N, blocks, block_width}
use Rattle.steps.specs.Count.{row_count, block_count, count_at}
use Rattle.steps.proofs.Loops.{blocks_within, width_le}
use Rattle.steps.proofs.Counts.{row_le}
use Rattle.walk.specs.Many.{Fitting, row_of, Counted}
use Rattle.walk.proofs.CountLaws.{pow_small, shift_one}

-- ---- a word whose bits are those of the digit d in the columns from s on: z of them, and none from column l on

pub record Seen (z : ℕ) (row : ℕ → ℕ) (d s l x : ℕ) : Type 0 where
  pub within : (i : ℕ) → i < z → s + i < l → bit x i ≡ is (row (s + i)) d
  pub beyond : (i : ℕ) → i < z → l ≤ s + i → bit x i ≡ 0

module _ (row : ℕ → ℕ) (d l k : ℕ) where
  -- without its lowest k bits
  seen_next : (z s x : ℕ) → k ≤ z → Seen z row d s l x → Seen (z - k) row d (s + k) l (x / 2 ^ k)
  seen_next z s x h S = record {
    within = λ i a b. bit_shr x k i ∙ S.within (k + i) (omega arith) (omega arith) ∙ ap (λ (j : ℕ). is (row j) d) (same i);
    beyond = λ i a b. bit_shr x k i ∙ S.beyond (k + i) (omega arith) (omega arith);
  }
    where
      same : (i : ℕ) → s + (k + i) ≡ s + k + i
      same i = omega arith

  -- its lowest k bits are the block's, also where the block is narrow
  seen_lane : (z s x : ℕ) → k ≤ z → Seen z row d s l x → x % 2 ^ k ≡ bits_of d row s (min k (l - s))
  unfolding bits_of
  seen_lane z s x h S =
      ext k (x % 2 ^ k) (word_of (λ i. is (row (s + i)) d) (min k (l - s))) (subst (λ (v : ℕ). v < 2 ^ k) (and_mask x k) (mask_lt x k)) small
      (λ t q. bit_mod x k t q ∙ go t q (dec_lt t (min k (l - s))))
    where
      few : (i : ℕ) → is (row (s + i)) d < 2
      few i = omega (arith, is_le (row (s + i)) d)

      w≤k : min k (l - s) ≤ k
      w≤k = omega arith

      word< : word_of (λ i. is (row (s + i)) d) (min k (l - s)) < 2 ^ min k (l - s)
      word< = word_of_lt (λ i. is (row (s + i)) d) (min k (l - s)) few

      small : word_of (λ i. is (row (s + i)) d) (min k (l - s)) < 2 ^ k
      small = omega (arith, word<, pow_mono w≤k)

      go : (t : ℕ) → t < k → Dec (t < min k (l - s)) → bit x t ≡ bit (word_of (λ i. is (row (s + i)) d) (min k (l - s))) t
      go t q (yes w) = S.within t (omega arith) (omega arith) ∙ sym (word_of_bit (λ i. is (row (s + i)) d) (min k (l - s)) t few w)
      go t q (no w) = S.beyond t (omega arith) (omega arith) ∙ sym (bit_high (min k (l - s)) _ t word< (omega arith))

  -- how many lanes are not 0 is how many of the n blocks from block b on hold the digit
  pub filled_blocks : (n b z x : ℕ) → n * k ≤ z → Seen z row d (b * k) l x → filled k n x ≡ sum b n (λ c. min 1 (bits_of d row (c * k) (block_width l k c)))
  unfolding filled sum block_width
  filled_blocks zero b z x h S = refl
  filled_blocks (suc n) b z x h S =
      let e : b * k + k ≡ suc b * k = omega (arith, suc-mul b k) in
      let room : k ≤ z = omega (arith, suc-mul n k) in
      ap₂ (λ (u v : ℕ). min 1 u + v) (seen_lane z (b * k) x room S)
      (filled_blocks n (suc b) (z - k) (x / 2 ^ k) (omega (arith, suc-mul n k)) (subst (λ (s : ℕ). Seen (z - k) row d s l (x / 2 ^ k)) e (seen_next z (b * k) x room S)))

-- ---- a pair of words that holds row i from column s on

pub record Window (q l : ℕ) (a : List ℕ) (i s u g : ℕ) : Type 0 where
  pub unit_in : (j : ℕ) → j < 64 → s + j < 64 * q → bit u j ≡ unit l a i (s + j)
  pub sign_in : (j : ℕ) → j < 64 → s + j < 64 * q → bit g j ≡ sign l a i (s + j)
  pub unit_out : (j : ℕ) → j < 64 → 64 * q ≤ s + j → bit u j ≡ 0
  pub sign_out : (j : ℕ) → j < 64 → 64 * q ≤ s + j → bit g j ≡ 0

one_is : (u s : ℕ) → u < 2 → s ≤ u → differ u s ≡ is (u + s) 1
unfolding is
one_is = cases (λ (u s : ℕ). differ u s ≡ is (u + s) 1) refl refl refl

two_is : (u s : ℕ) → u < 2 → s ≤ u → s ≡ is (u + s) 2
unfolding is
two_is = cases (λ (u s : ℕ). s ≡ is (u + s) 2) refl refl refl

module _ (m l i q s u g : ℕ) (a : List ℕ) (L : Legal m l a) (hi : i < m) (eq : q ≡ planes l) (W : Window q l a i s u g) where
  room : l ≤ 64 * q
  room = rw eq (planes_room l)

  -- padding is 0 in both planes
  none : (j : ℕ) → l ≤ s + j → s + j < 64 * q → (unit l a i (s + j) ≡ 0) × (sign l a i (s + j) ≡ 0)
  unfolding cell
  none j h k =
      let z : unit l a i (s + j) + sign l a i (s + j) ≡ 0 = L.clear i (s + j) hi h (rw (sym eq) k) in
      (omega arith, omega arith)

  ones_seen : Seen 64 (cell l a i) 1 s l (bit_xor u g)
  unfolding cell
  ones_seen = record {
    within = λ j h k. bit_of_xor u g j ∙ ap₂ differ (W.unit_in j h (omega (arith, room))) (W.sign_in j h (omega (arith, room))) ∙ one_is _ _ (unit_small l a i (s + j)) (L.sound i (s + j) hi k);
    beyond = λ j h k. bit_of_xor u g j ∙ go j h k (dec_lt (s + j) (64 * q));
  }
    where
      go : (j : ℕ) → j < 64 → l ≤ s + j → Dec (s + j < 64 * q) → differ (bit u j) (bit g j) ≡ 0
      go j h k (yes c) = ap₂ differ (W.unit_in j h c ∙ (none j k c).0) (W.sign_in j h c ∙ (none j k c).1)
      go j h k (no c) = ap₂ differ (W.unit_out j h (omega arith)) (W.sign_out j h (omega arith))

  twos_seen : Seen 64 (cell l a i) 2 s l g
  unfolding cell
  twos_seen = record {
    within = λ j h k. W.sign_in j h (omega (arith, room)) ∙ two_is _ _ (unit_small l a i (s + j)) (L.sound i (s + j) hi k);
    beyond = λ j h k. go j h k (dec_lt (s + j) (64 * q));
  }
    where
      go : (j : ℕ) → j < 64 → l ≤ s + j → Dec (s + j < 64 * q) → bit g j ≡ 0
      go j h k (yes c) = W.sign_in j h c ∙ (none j k c).1
      go j h k (no c) = W.sign_out j h (omega arith)

  -- these cells are sound
  pub window_good : g < 2 ^ 64 → LegalPair u g
  unfolding LegalPair
  window_good fits t = go (dec_lt t 64)
    where
      real : t < 64 → s + t < 64 * q → Dec (s + t < l) → bit g t ≤ bit u t
      real h c (yes k) = omega (arith, W.unit_in t h c, W.sign_in t h c, L.sound i (s + t) hi k)
      real h c (no k) = omega (arith, W.sign_in t h c, (none t (omega arith) c).1)

      near : t < 64 → Dec (s + t < 64 * q) → bit g t ≤ bit u t
      near h (yes c) = real h c (dec_lt (s + t) l)
      near h (no c) = omega (arith, W.sign_out t h (omega arith))

      go : Dec (t < 64) → bit g t ≤ bit u t
      go (yes h) = near h (dec_lt (s + t) (64 * q))
      go (no h) = omega (arith, bit_high 64 g t fits (omega arith))

-- ---- sums

sum_both : (f g : ℕ → ℕ) (n s : ℕ) → sum s n (λ i. f i + g i) ≡ sum s n f + sum s n g
unfolding sum
sum_both f g zero s = refl
sum_both f g (suc n) s = omega (arith, sum_both f g n (suc s))

sum_swap : (f : ℕ → ℕ → ℕ) (n s m t : ℕ) → sum s n (λ i. sum t m (f i)) ≡ sum t m (λ c. sum s n (λ i. f i c))
unfolding sum
sum_swap f zero s m t = sym (sum_same 0 m t ∙ omega arith)
sum_swap f (suc n) s m t = ap (λ (z : ℕ). sum t m (f s) + z) (sum_swap f n (suc s) m t) ∙ sym (sum_both (f s) (λ c. sum (suc s) n (λ i. f i c)) m t)

-- one pair of words: the lanes with a 1 and those with a 2 are the row's steps
pub row_filled : (m l k i q b n u g : ℕ) (a : List ℕ) → Legal m l a → i < m → q ≡ planes l → n * k ≤ 64 → Window q l a i (b * k) u g
    → filled k n (bit_xor u g) + filled k n g ≡ row_of l k (cell l a) b n i
unfolding row_count
row_filled m l k i q b n u g a L hi eq h W =
    ap₂ ◌+◌ (filled_blocks (cell l a i) 1 l k n b 64 (bit_xor u g) h (ones_seen m l i q (b * k) u g a L hi eq W)) (filled_blocks (cell l a i) 2 l k n b 64 g h (twos_seen m l i q (b * k) u g a L hi eq W))
    ∙ sym (sum_both (λ c. min 1 (P (cell l a) (c * k) (block_width l k c) i)) (λ c. min 1 (N (cell l a) (c * k) (block_width l k c) i)) n b)

-- table steps and rows together
pub many_counts : (m l k b n : ℕ) (A : Matrix) → sum b n (λ c. 2 ^ block_width l k c - 1) + sum 0 m (row_of l k A b n) ≡ sum b n (count_at m l k A)
unfolding block_count
many_counts m l k b n A =
    ap (λ (z : ℕ). sum b n (λ c. 2 ^ block_width l k c - 1) + z) (sum_swap (λ i c. row_count A (c * k) (block_width l k c) i) m 0 n b)
    ∙ sym (sum_both (λ c. 2 ^ block_width l k c - 1) (λ c. sum 0 m (row_count A (c * k) (block_width l k c))) n b)

-- ---- the words that the code reads

module _ (l i q s : ℕ) (a : List ℕ) (eq : q ≡ planes l) (fits : Words a) where
  abbrev at : ℕ
  at = i * (2 * q) + s / 64

  is_unit : (j : ℕ) → bit_at a (i * (2 * q)) (s + j) ≡ unit l a i (s + j)
  unfolding unit wide
  is_unit j = rw eq

  is_sign : (j : ℕ) → bit_at a (i * (2 * q) + q) (s + j) ≡ sign l a i (s + j)
  unfolding sign wide
  is_sign j = rw eq

  over : i * (2 * q) + s / 64 + q ≡ i * (2 * q) + q + s / 64
  over = omega arith

  -- of one word: the row ends in it, or it is read from its first place on
  pub window_one : s < 64 * q → ((j : ℕ) → j < 64 → s + j < 64 * q → s % 64 + j < 64) → Window q l a i s (one_word a at (s % 64)) (one_word a (at + q) (s % 64))
  window_one some near = record {
    unit_in = λ j h k. one_in a (i * (2 * q)) s j (near j h k) ∙ is_unit j;
    sign_in = λ j h k. ap (λ (x : ℕ). bit (one_word a x (s % 64)) j) over ∙ one_in a (i * (2 * q) + q) s j (near j h k) ∙ is_sign j;
    unit_out = λ j h k. one_out a (i * (2 * q)) s j (fits _) (omega arith);
    sign_out = λ j h k. ap (λ (x : ℕ). bit (one_word a x (s % 64)) j) over ∙ one_out a (i * (2 * q) + q) s j (fits _) (omega arith);
  }

  pub window_two : 0 < s % 64 → s / 64 + 1 < q → Window q l a i s (two_words a at (s % 64)) (two_words a (at + q) (s % 64))
  window_two pos more = record {
    unit_in = λ j h k. two_in a (i * (2 * q)) s j (fits _) pos h ∙ is_unit j;
    sign_in = λ j h k. ap (λ (x : ℕ). bit (two_words a x (s % 64)) j) over ∙ two_in a (i * (2 * q) + q) s j (fits _) pos h ∙ is_sign j;
    unit_out = λ j h k. absurd (omega arith);
    sign_out = λ j h k. absurd (omega arith);
  }

-- there are no more blocks than columns
pub blocks_le : (l k : ℕ) → 0 < k → blocks l k ≤ l
blocks_le l k pos = go (dec_lt l (blocks l k))
  where
    go : Dec (l < blocks l k) → blocks l k ≤ l
    go (yes h) =
        let some : l * 1 ≤ l * k = mul-le-mul_left l pos in
        absurd (omega (arith, blocks_within l k l pos h))
    go (no h) = omega arith

-- ---- the loops

-- the table steps of one block more
pub tables_more : (l k b i t w : ℕ) → w ≤ 8 → w ≡ block_width l k (b + i) → t ≡ sum b i (λ c. 2 ^ block_width l k c - 1)
    → t + (1 * 2 ^ w % 18446744073709551616 - 1) ≡ sum b (i + 1) (λ c. 2 ^ block_width l k c - 1)
unfolding sum
tables_more l k b i t w h ew et =
    let one : 1 * 2 ^ w % 18446744073709551616 ≡ 2 ^ w = shift_one w h in
    let last : sum (b + i) 1 (λ c. 2 ^ block_width l k c - 1) ≡ 2 ^ w - 1 = rw ew (omega arith) in
    omega (arith, sum_add (λ c. 2 ^ block_width l k c - 1) i 1 b)

pub tables_small : (l k b i : ℕ) → k ≤ 8 → i ≤ 64 → sum b i (λ c. 2 ^ block_width l k c - 1) ≤ 16384
tables_small l k b i h hi = omega (arith, sum_le (λ c. 2 ^ block_width l k c - 1) (λ _. 256) few i b, sum_same 256 i b)
  where
    few : (c : ℕ) → 2 ^ block_width l k c - 1 ≤ 256
    few c = let n : block_width l k c ≤ 8 = omega (arith, width_le l k c) in omega (arith, pow_small (block_width l k c) n)

module _ (m l k b n : ℕ) (a : List ℕ) (F : Fitting m l k b n a) where
  abbrev row : ℕ → ℕ
  row = row_of l k (cell l a) b n

  pub few_blocks : n ≤ 64
  few_blocks =
      let h : n * 1 ≤ n * k = mul-le-mul_left n F.some in
      omega (arith, F.word)

  pub starts : b * k < l
  starts = blocks_within l k b F.some (omega (arith, F.room, F.more))

  pub long_small : length a ≤ 32768
  long_small = omega (arith, F.legal.long, words_le m l F.m F.l)

  row_small : (i : ℕ) → row i ≤ 128
  row_small i = omega (arith, few_blocks, sum_le (λ c. row_count (cell l a) (c * k) (block_width l k c) i) (λ _. 2) two n b, sum_same 2 n b)
    where
      two : (c : ℕ) → row_count (cell l a) (c * k) (block_width l k c) i ≤ 2
      two c = omega (arith, row_le (cell l a) (c * k) (block_width l k c) i)

  pub rows_small : (i : ℕ) → i ≤ 1024 → sum 0 i row ≤ 131072
  rows_small i h = omega (arith, sum_le row (λ _. 128) row_small i 0, sum_same 128 i 0)

  pub rows_more : (i s r : ℕ) → s ≡ sum 0 i row → r ≡ row i → s + r ≡ sum 0 (i + 1) row
  rows_more i s r es er = rw (add-one i) (omega (arith, sum_last row i))

  -- the words that are read lie in the row
  pub reads_one : (i q : ℕ) → q ≡ planes l → i < m → i * (2 * q) + b * k / 64 + q < length a
  reads_one i q eq h = omega (arith, starts, planes_room l, row_fits m l i q (length a) eq F.legal.long h)

  pub reads_two : (i q : ℕ) → q ≡ planes l → i < m → b * k / 64 + 1 < planes l → i * (2 * q) + b * k / 64 + q + 1 < length a
  reads_two i q eq h more = omega (arith, row_fits m l i q (length a) eq F.legal.long h)

  -- the steps of a row, as the code counts them
  pub lanes_counted : (i r : ℕ) (lanes : Lanes) (x : Cells) → InLanes (k - 1) n lanes → Counted l k (cell l a) b n i x
      → ((j n : ℕ) → InLanes j n lanes → r ≡ filled (suc j) n (bit_xor x.unit x.sign) + filled (suc j) n x.sign) → r ≡ row i
  lanes_counted i r lanes x L C made =
      let e : suc (k - 1) ≡ k = omega (arith, F.some) in
      made (k - 1) n L ∙ ap (λ (j : ℕ). filled j n (bit_xor x.unit x.sign) + filled j n x.sign) e ∙ C.steps

  module _ (i q : ℕ) (x : Cells) (eq : q ≡ planes l) (fits : Words a) (hi : i < m) (small : x.sign < 2 ^ 64) where
    in_window : (u g : ℕ) → x ≡ record { unit = u; sign = g } → Window q l a i (b * k) u g → Counted l k (cell l a) b n i x
    in_window u g ex W =
        subst (λ (y : Cells). Counted l k (cell l a) b n i y) (sym ex) (record {
          good = window_good m l i q (b * k) u g a F.legal hi eq W (subst (λ (y : Cells). y.sign < 2 ^ 64) ex small);
          steps = row_filled m l k i q b n u g a F.legal hi eq F.word W;
        })

    pub counted_one : x ≡ of_one a q (i * (2 * q) + b * k / 64) (b * k % 64) → ((j : ℕ) → j < 64 → b * k + j < 64 * planes l → b * k % 64 + j < 64) → Counted l k (cell l a) b n i x
    unfolding of_one
    counted_one ex near = in_window _ _ ex (window_one l i q (b * k) a eq fits (omega (arith, starts, planes_room l)) (λ j h c. near j h (omega arith)))

    pub counted_two : x ≡ of_two a q (i * (2 * q) + b * k / 64) (b * k % 64) → 0 < b * k % 64 → b * k / 64 + 1 < planes l → Counted l k (cell l a) b n i x
    unfolding of_two
    counted_two ex pos more = in_window _ _ ex (window_two l i q (b * k) a eq fits pos (omega arith))

-- ---- fewer blocks

module _ (m l k b n : ℕ) (a : List ℕ) (F : Fitting m l k b n a) where
  fewer_fit : (h : ℕ) → h ≤ n → h * k ≤ 64
  fewer_fit h le =
      let w : h * k ≤ n * k = mul-le-mul_right k le in
      omega (arith, F.word)

  pub fit_first : (h : ℕ) → 0 < h → h ≤ n → Fitting m l k b h a
  fit_first h pos le = record { m = F.m; l = F.l; legal = F.legal; some = F.some; width = F.width; room = omega (arith, F.room); more = pos; word = fewer_fit h le }

  pub fit_last : (h : ℕ) → h < n → Fitting m l k (b + h) (n - h) a
  fit_last h le = record { m = F.m; l = F.l; legal = F.legal; some = F.some; width = F.width; room = omega (arith, F.room); more = omega arith; word = fewer_fit (n - h) (omega arith) }

pub per_word : (k : ℕ) → 0 < k → k ≤ 8 → 0 < 64 / k
per_word k pos h = (le-div_iff_mul-le pos).1 (omega arith)

pub fit_word : (m l k b n : ℕ) (a : List ℕ) → m ≤ 1024 → l ≤ 1024 → Legal m l a → 0 < k → k ≤ 8 → b < blocks l k → n ≡ min (64 / k) (blocks l k - b) → Fitting m l k b n a
fit_word m l k b n a hm hl L pos hk hb en =
    let some : 0 < 64 / k = per_word k pos hk in
    let less : n ≤ 64 / k = omega arith in
    let w : n * k ≤ 64 / k * k = mul-le-mul_right k less in
    record { m = hm; l = hl; legal = L; some = pos; width = hk; room = omega arith; more = omega arith; word = omega (arith, div-mul-le_self 64 k) }
