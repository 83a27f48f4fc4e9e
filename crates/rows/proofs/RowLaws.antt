-- Rows that are made pair by pair, in place or from part to part. Assumes nothing.
use mathlib.Core.Path.{◌≡◌, refl, sym, ap, ap₂, subst, ◌∙◌}
use mathlib.Core.Logic.{inl, inr, ⊎_elim}
use mathlib.Core.List.{List}
use Prim.Native.Nat.{ℕ, zero, suc, ◌+◌, ◌-◌, ◌^◌, ◌≤◌, ◌<◌}
use native.Mathlib.Decide.{dec_lt}
use native.Mathlib.Omega.{arith}
use lib.ListN.{length, get_or, set, length-set}
use lib.Seq.{get_or-set_same, get_or-set_other, set_comm, ext_get_or}
use Rattle.cells.specs.Pair.{digit, LegalPair, Holds, WordPair}
use Rattle.cells.proofs.PairLaws.{holds_cong}
use Rattle.cells.proofs.EncodeLaws.{same}
use Rattle.rows.specs.Row.{digit_at, LegalRow, of1, of2, Made, Written, Readable, InPlace, from}

-- ---- none, one and more pairs

pub made_none : (f : ℕ → ℕ → ℕ) (x q : ℕ) (old : List ℕ) → Made f x q 0 old old
made_none f x q old = record { long = refl; made = λ p l. absurd (omega arith); before = λ k l. refl; between = λ k l m. refl; after = λ k l. refl }

pair_cong : (f g : ℕ → ℕ) (u s : ℕ) → ((t : ℕ) → f t ≡ g t) → WordPair f u s → WordPair g u s
pair_cong f g u s e w = record { holds = holds_cong e w.holds; unit_fits = w.unit_fits; sign_fits = w.sign_fits }

pub made_cong : (f g : ℕ → ℕ → ℕ) (x q n : ℕ) (old new : List ℕ) → ((p t : ℕ) → p < n → f p t ≡ g p t) → Made f x q n old new → Made g x q n old new
made_cong f g x q n old new e M = record {
  long = M.long;
  made = λ p l. pair_cong (f p) (g p) _ _ (λ t. e p t l) (M.made p l);
  before = M.before;
  between = M.between;
  after = M.after;
}

pub made_count : (f : ℕ → ℕ → ℕ) (x q m n : ℕ) (old new : List ℕ) → m ≡ n → Made f x q m old new → Made f x q n old new
made_count f x q m n old new e M = subst (λ (k : ℕ). Made f x q k old new) e M

pub made_store : (f : ℕ → ℕ → ℕ) (x q : ℕ) (old : List ℕ) (u s : ℕ) → 0 < q → x + q < length old → WordPair (f 0) u s → Made f x q 1 old (set (set old x u) (x + q) s)
made_store f x q old u s pos room w = record {
  long = simp length-set;
  made = λ p l. go p l;
  before = λ k l. other k (λ e. omega arith) (λ e. omega arith);
  between = λ k l m. other k (λ e. omega arith) (λ e. omega arith);
  after = λ k l. other k (λ e. omega arith) (λ e. omega arith);
}
  where
    other : (k : ℕ) → (k ≡ x + q → ⊥) → (k ≡ x → ⊥) → get_or (set (set old x u) (x + q) s) k 0 ≡ get_or old k 0
    other k a b = get_or-set_other (set old x u) (x + q) k s 0 a ∙ get_or-set_other old x k u 0 b

    go : (p : ℕ) → p < 1 → WordPair (f p) (get_or (set (set old x u) (x + q) s) (x + p) 0) (get_or (set (set old x u) (x + q) s) (x + q + p) 0)
    go (suc p) l = absurd (omega arith)
    go zero l =
        let a : x + 0 ≡ x = omega arith in
        let b : x + q + 0 ≡ x + q = omega arith in
        rw (
          a,
          b,
          get_or-set_same (set old x u) (x + q) s 0 (simp length-set (omega arith)),
          get_or-set_other (set old x u) (x + q) x s 0 (λ e. omega arith),
          get_or-set_same old x u 0 (omega arith),
        )
        w

-- n pairs, and then m pairs more
pub made_more : (f g : ℕ → ℕ → ℕ) (x q n m : ℕ) (old mid new : List ℕ) → n + m ≤ q → ((p t : ℕ) → p < m → g p t ≡ f (n + p) t) → Made f x q n old mid → Made g (x + n) q m mid new
    → Made f x q (n + m) old new
made_more f g x q n m old mid new h same M N = record {
  long = N.long ∙ M.long;
  made = λ p l. go p l (dec_lt p n);
  before = λ k l. N.before k (omega arith) ∙ M.before k l;
  between = λ k l i. N.between k (omega arith) (omega arith) ∙ M.between k (omega arith) i;
  after = λ k l. N.after k (omega arith) ∙ M.after k (omega arith);
}
  where
    go : (p : ℕ) → p < n + m → Dec (p < n) → WordPair (f p) (get_or new (x + p) 0) (get_or new (x + q + p) 0)
    go p l (yes i) = rw (N.before (x + p) (omega arith), N.between (x + q + p) (omega arith) (omega arith)) (M.made p i)
    go p l (no i) =
        let a : x + p ≡ x + n + (p - n) = omega arith in
        let b : x + q + p ≡ x + n + q + (p - n) = omega arith in
        let c : n + (p - n) ≡ p = omega arith in
        rw (a, b) (pair_cong (g (p - n)) (f p) _ _ (λ t. same (p - n) t (omega arith) ∙ ap (λ (k : ℕ). f k t) c) (N.made (p - n) (omega arith)))

-- one pair more, stored
pub made_next : (f : ℕ → ℕ → ℕ) (x q n : ℕ) (old mid : List ℕ) (u s : ℕ) → n < q → x + q + n < length mid → WordPair (f n) u s → Made f x q n old mid
    → Made f x q (n + 1) old (set (set mid (x + n) u) (x + n + q) s)
made_next f x q n old mid u s l room w M =
    let z : n + 0 ≡ n = omega arith in
    made_more f (λ p t. f (n + p) t) x q n 1 old mid _ (omega arith) (λ p t h. refl) M (made_store (λ p t. f (n + p) t) (x + n) q mid u s (omega arith) (omega arith) (rw z w))

-- unit words first, or pair by pair: where the planes lie two words apart or more the order of stores plays no part
pub units_first : (old : List ℕ) (x q u v s r : ℕ) → 2 ≤ q
    → set (set (set (set old x u) (x + 1) v) (x + q) s) (x + q + 1) r ≡ set (set (set (set old x u) (x + q) s) (x + 1) v) (x + 1 + q) r
units_first old x q u v s r h =
    let e : x + q + 1 ≡ x + 1 + q = omega arith in
    ap₂ (λ (l : List ℕ) (k : ℕ). set l k r) (set_comm (set old x u) (x + 1) (x + q) v s (λ d. omega arith)) e

pub made_two : (f : ℕ → ℕ → ℕ) (x q : ℕ) (old : List ℕ) (u s v r : ℕ) → 2 ≤ q → x + q + 1 < length old → WordPair (f 0) u s → WordPair (f 1) v r
    → Made f x q 2 old (set (set (set (set old x u) (x + q) s) (x + 1) v) (x + 1 + q) r)
made_two f x q old u s v r h room a b =
    made_next f x q 1 old (set (set old x u) (x + q) s) v r (omega arith) (simp length-set (omega arith)) b (made_store f x q old u s (omega arith) (omega arith) a)

-- ---- pairs that are loaded, and what a word operation makes of them

pub load_legal : (a : List ℕ) (x q n p i u s : ℕ) → LegalRow a x q n → p < n → i ≡ x + p → u ≡ get_or a i 0 → s ≡ get_or a (i + q) 0 → LegalPair u s
unfolding LegalRow
load_legal a x q n p i u s L h e eu es =
    let d : i + q ≡ x + q + p = omega arith in
    rw (eu, es, d, e) (L p h)

-- the sign word one place on from the one at y + q is that of the pair at y + 1
pub next_sign : (a : List ℕ) (y q w : ℕ) → w ≡ get_or a (y + q + 1) 0 → w ≡ get_or a (y + 1 + q) 0
next_sign a y q w e = let p : y + q + 1 ≡ y + 1 + q = omega arith in rw p at e

pub loaded : (a : List ℕ) (x q p i u s : ℕ) → i ≡ x + p → u ≡ get_or a i 0 → s ≡ get_or a (i + q) 0 → (t : ℕ) → digit u s t ≡ digit_at a x q p t
unfolding digit_at
loaded a x q p i u s e eu es t =
    let d : i + q ≡ x + q + p = omega arith in
    rw (eu, es, d, e)

pub pair2 : (op : ℕ → ℕ → ℕ) (q : ℕ) (a : List ℕ) (x i u s : ℕ) (b : List ℕ) (y j w z p v r : ℕ)
    → i ≡ x + p → u ≡ get_or a i 0 → s ≡ get_or a (i + q) 0 → j ≡ y + p → w ≡ get_or b j 0 → z ≡ get_or b (j + q) 0
    → Holds (λ t. op (digit u s t) (digit w z t)) v r → v < 2 ^ 64 → r < 2 ^ 64 → WordPair (of2 op q a x b y p) v r
unfolding of2
pair2 op q a x i u s b y j w z p v r e eu es f ew ez H hv hr =
    record { holds = holds_cong (λ t. ap₂ op (loaded a x q p i u s e eu es t) (loaded b y q p j w z f ew ez t)) H; unit_fits = hv; sign_fits = hr }

pub pair1 : (op : ℕ → ℕ) (q : ℕ) (a : List ℕ) (x p i u s v r : ℕ) → i ≡ x + p → u ≡ get_or a i 0 → s ≡ get_or a (i + q) 0
    → Holds (λ t. op (digit u s t)) v r → v < 2 ^ 64 → r < 2 ^ 64 → WordPair (of1 op q a x p) v r
unfolding of1
pair1 op q a x p i u s v r e eu es H hv hr = record { holds = holds_cong (λ t. ap op (loaded a x q p i u s e eu es t)) H; unit_fits = hv; sign_fits = hr }

-- what a word operation makes of pairs that hold the digits of rows
pub made_of1 : (op : ℕ → ℕ) (q : ℕ) (a : List ℕ) (x p : ℕ) {u s v r : ℕ} → Holds (digit_at a x q p) u s → Holds (λ t. op (digit u s t)) v r → Holds (of1 op q a x p) v r
unfolding of1
made_of1 op q a x p A H = holds_cong (λ t. ap op (A.digits t)) H

pub made_of2 : (op : ℕ → ℕ → ℕ) (q : ℕ) (a : List ℕ) (x : ℕ) (b : List ℕ) (y p : ℕ) {u s w z v r : ℕ}
    → Holds (digit_at a x q p) u s → Holds (digit_at b y q p) w z → Holds (λ t. op (digit u s t) (digit w z t)) v r → Holds (of2 op q a x b y p) v r
unfolding of2
made_of2 op q a x b y p A B H = holds_cong (λ t. ap₂ op (A.digits t) (B.digits t)) H

-- the digits of a row go by its words
pub digit_at_by : (a b : List ℕ) (x y q p r : ℕ) → get_or a (x + p) 0 ≡ get_or b (y + r) 0 → get_or a (x + q + p) 0 ≡ get_or b (y + q + r) 0 → (t : ℕ) → digit_at a x q p t ≡ digit_at b y q r t
unfolding digit_at
digit_at_by a b x y q p r e f t = rw (e, f)

pub digit_at_later : (a : List ℕ) (x q j p t : ℕ) → digit_at a (x + j) q p t ≡ digit_at a x q (j + p) t
digit_at_later a x q j p t =
    let e : x + j + p ≡ x + (j + p) = omega arith in
    let f : x + j + q + p ≡ x + q + (j + p) = omega arith in
    digit_at_by a a (x + j) x q p (j + p) (ap (λ (k : ℕ). get_or a k 0) e) (ap (λ (k : ℕ). get_or a k 0) f) t

-- ---- from part to part: m pairs from pair j on

pub readable_part : (q n j m y k : ℕ) (a : List ℕ) → k ≡ y + j → j + m ≤ n → Readable q n y a → Readable q m k a
unfolding LegalRow
readable_part q n j m y k a e h R = record { room = omega (arith, R.room); legal = λ p l. go p l }
  where
    go : (p : ℕ) → p < m → LegalPair (get_or a (k + p) 0) (get_or a (k + q + p) 0)
    go p l =
        let d : k + p ≡ y + (j + p) = omega arith in
        let i : k + q + p ≡ y + q + (j + p) = omega arith in
        rw (d, i) (R.legal (j + p) (omega arith))

pub made_first : (f : ℕ → ℕ → ℕ) (x q n : ℕ) {old new : List ℕ} → Made (from f 0) x q n old new → Made f x q n old new
made_first f x q n M = made_cong (from f 0) f x q n _ _ (λ p t l. let e : 0 + p ≡ p = omega arith in ap (λ (k : ℕ). f k t) e) M

-- j pairs, and then m pairs more of the same digits
pub more : (f : ℕ → ℕ → ℕ) (x q j m n : ℕ) (old mid new : List ℕ) → n ≡ j + m → n ≤ q
    → Made f x q j old mid → Made (from f j) (x + j) q m mid new → Made f x q n old new
more f x q j m n old mid new e h M N =
    made_count f x q (j + m) n old new (sym e) (made_more f (from f j) x q j m old mid new (omega arith) (λ p t l. refl) M N)

-- the same of what an operation makes of a row
pub more1 : (op : ℕ → ℕ) (q : ℕ) (a : List ℕ) (x y j m n : ℕ) (old mid new : List ℕ) → n ≡ j + m → n ≤ q
    → Made (of1 op q a y) x q j old mid → Made (of1 op q a (y + j)) (x + j) q m mid new → Made (of1 op q a y) x q n old new
unfolding of1
more1 op q a x y j m n old mid new e h M N =
    made_count _ x q (j + m) n old new (sym e) (made_more _ _ x q j m old mid new (omega arith) (λ p t l. ap op (digit_at_later a y q j p t)) M N)

-- .. and of two rows
pub more2 : (op : ℕ → ℕ → ℕ) (q : ℕ) (a b : List ℕ) (x y z j m n : ℕ) (old mid new : List ℕ) → n ≡ j + m → n ≤ q
    → Made (of2 op q a y b z) x q j old mid → Made (of2 op q a (y + j) b (z + j)) (x + j) q m mid new → Made (of2 op q a y b z) x q n old new
unfolding of2
more2 op q a b x y z j m n old mid new e h M N =
    made_count _ x q (j + m) n old new (sym e)
    (made_more _ _ x q j m old mid new (omega arith) (λ p t l. ap₂ op (digit_at_later a y q j p t) (digit_at_later b z q j p t)) M N)

-- ---- in place: the pairs that are still to be read are as they were

module _ {q n x y z : ℕ} {t b : List ℕ} (R : InPlace q n x y z t b) where
  -- fewer pairs
  pub fewer : (m : ℕ) → m ≤ n → InPlace q m x y z t b
  fewer m h = record {
    fits = omega (arith, R.fits);
    room = omega (arith, R.room);
    first = readable_part q n 0 m y y t (omega arith) (omega arith) R.first;
    second = readable_part q n 0 m z z b (omega arith) (omega arith) R.second;
    apart = R.apart;
  }

  module _ {f : ℕ → ℕ → ℕ} {j : ℕ} {mid : List ℕ} (M : Made f x q j t mid) where
    kept_unit : (p : ℕ) → j ≤ p → p < n → get_or mid (y + p) 0 ≡ get_or t (y + p) 0
    kept_unit p l h =
        let k : n ≤ q = R.fits in
        ⊎_elim (λ e. M.between (y + p) (omega arith) (omega arith)) (λ e. M.before (y + p) (omega arith)) R.apart

    kept_sign : (p : ℕ) → j ≤ p → p < n → get_or mid (y + q + p) 0 ≡ get_or t (y + q + p) 0
    kept_sign p l h =
        let k : n ≤ q = R.fits in
        ⊎_elim (λ e. M.after (y + q + p) (omega arith)) (λ e. M.before (y + q + p) (omega arith)) R.apart

    -- m pairs from pair j on, when those before are made
    pub later : (m : ℕ) → j + m ≤ n → InPlace q m (x + j) (y + j) (z + j) mid b
    unfolding LegalRow
    later m h =
        let fits : n ≤ q = R.fits in
        let long : length mid ≡ length t = M.long in
        let first_room : y + q + n ≤ length t = R.first.room in
        record {
          fits = omega arith;
          room = omega (arith, R.room);
          first = record { room = omega arith; legal = λ p l. row p (kept_unit (j + p) (omega arith) (omega arith)) (kept_sign (j + p) (omega arith) (omega arith)) (R.first.legal (j + p) (omega arith)) };
          second = readable_part q n j m z (z + j) b refl h R.second;
          apart = ⊎_elim (λ e. inl (omega arith)) (λ e. inr (omega arith)) R.apart;
        }
      where
        row : (p : ℕ) → get_or mid (y + (j + p)) 0 ≡ get_or t (y + (j + p)) 0 → get_or mid (y + q + (j + p)) 0 ≡ get_or t (y + q + (j + p)) 0
            → LegalPair (get_or t (y + (j + p)) 0) (get_or t (y + q + (j + p)) 0) → LegalPair (get_or mid (y + j + p) 0) (get_or mid (y + j + q + p) 0)
        row p e g L =
            let a : y + j + p ≡ y + (j + p) = omega arith in
            let c : y + j + q + p ≡ y + q + (j + p) = omega arith in
            rw (a, c, e, g) L

    later_same : (op : ℕ → ℕ → ℕ) (m : ℕ) → j + m ≤ n → (p k : ℕ) → p < m → of2 op q mid (y + j) b (z + j) p k ≡ of2 op q t y b z (j + p) k
    unfolding of2
    later_same op m h p k l =
        ap₂ op
        (digit_at_later mid y q j p k ∙ digit_at_by mid t y y q (j + p) (j + p) (kept_unit (j + p) (omega arith) (omega arith)) (kept_sign (j + p) (omega arith) (omega arith)) k)
        (digit_at_later b z q j p k)

  -- m pairs more, which make k in all
  pub next : (op : ℕ → ℕ → ℕ) {j m : ℕ} (k : ℕ) {mid new : List ℕ} → k ≡ j + m → k ≤ n
      → Made (of2 op q t y b z) x q j t mid → Made (of2 op q mid (y + j) b (z + j)) (x + j) q m mid new → Made (of2 op q t y b z) x q k t new
  next op {j} {m} k {mid} {new} e h M N =
      let fits : n ≤ q = R.fits in
      made_count (of2 op q t y b z) x q (j + m) k t new (sym e)
      (made_more (of2 op q t y b z) (of2 op q mid (y + j) b (z + j)) x q j m t mid new (omega arith) (later_same M op m (omega arith)) M N)

-- ---- a row that was made can be read, and so can a row before it

pub made_readable : (f : ℕ → ℕ → ℕ) (x q : ℕ) (old new : List ℕ) → x + (q + q) ≤ length old → Made f x q q old new → Readable q q x new
unfolding LegalRow
made_readable f x q old new room M = record { room = omega (arith, M.long); legal = λ p l. (M.made p l).holds.legal }

pub still_readable : (f : ℕ → ℕ → ℕ) (x y q : ℕ) (old new : List ℕ) → y + (q + q) ≤ x → Made f x q q old new → Readable q q y old → Readable q q y new
unfolding LegalRow
still_readable f x y q old new h M R = record {
  room = omega (arith, M.long, R.room);
  legal = λ p l. rw (M.before (y + p) (omega arith), M.before (y + q + p) (omega arith)) (R.legal p l);
}

-- ---- two outcomes of one statement coincide

pub made_one : (f : ℕ → ℕ → ℕ) (x q : ℕ) (old new new' : List ℕ) → Made f x q q old new → Made f x q q old new' → new ≡ new'
made_one f x q old new new' M N = ext_get_or 0 new new' (M.long ∙ sym N.long) (λ k l. go k (dec_lt k x) (dec_lt k (x + q)) (dec_lt k (x + q + q)))
  where
    both : (p : ℕ) → p < q → (get_or new (x + p) 0 ≡ get_or new' (x + p) 0) × (get_or new (x + q + p) 0 ≡ get_or new' (x + q + p) 0)
    both p l = same (f p) _ _ _ _ (M.made p l).holds (N.made p l).holds (M.made p l).unit_fits (M.made p l).sign_fits (N.made p l).unit_fits (N.made p l).sign_fits

    go : (k : ℕ) → Dec (k < x) → Dec (k < x + q) → Dec (k < x + q + q) → get_or new k 0 ≡ get_or new' k 0
    go k (yes a) b c = M.before k a ∙ sym (N.before k a)
    go k (no a) (yes b) c =
        let e : x + (k - x) ≡ k = omega arith in
        subst (λ (i : ℕ). get_or new i 0 ≡ get_or new' i 0) e (both (k - x) (omega arith)).0
    go k (no a) (no b) (yes c) =
        let e : x + q + (k - (x + q)) ≡ k = omega arith in
        subst (λ (i : ℕ). get_or new i 0 ≡ get_or new' i 0) e (both (k - (x + q)) (omega arith)).1
    go k (no a) (no b) (no c) = M.after k (omega arith) ∙ sym (N.after k (omega arith))

-- ---- words that are written one after another

pub written_none : (f : ℕ → ℕ) (x : ℕ) (old : List ℕ) → Written f x 0 old old
written_none f x old = record { long = refl; written = λ k l. absurd (omega arith); before = λ k l. refl; after = λ k l. refl }

pub written_next : (f : ℕ → ℕ) (x n : ℕ) (old mid : List ℕ) (v : ℕ) → x + n < length mid → v ≡ f n → Written f x n old mid → Written f x (n + 1) old (set mid (x + n) v)
written_next f x n old mid v room e W = record {
  long = simp length-set W.long;
  written = λ k l. go k (dec_lt k n) l;
  before = λ k l. get_or-set_other mid (x + n) k v 0 (λ d. omega arith) ∙ W.before k l;
  after = λ k l. get_or-set_other mid (x + n) k v 0 (λ d. omega arith) ∙ W.after k (omega arith);
}
  where
    go : (k : ℕ) → Dec (k < n) → k < n + 1 → get_or (set mid (x + n) v) (x + k) 0 ≡ f k
    go k (yes h) l = get_or-set_other mid (x + n) (x + k) v 0 (λ d. omega arith) ∙ W.written k h
    go k (no h) l =
        let d : k ≡ n = omega arith in
        rw d (get_or-set_same mid (x + n) v 0 room ∙ e)

-- n words, and then m words more
pub written_more : (f g : ℕ → ℕ) (x n m : ℕ) (old mid new : List ℕ) → ((k : ℕ) → k < m → g k ≡ f (n + k)) → Written f x n old mid → Written g (x + n) m mid new → Written f x (n + m) old new
written_more f g x n m old mid new same W N = record {
  long = N.long ∙ W.long;
  written = λ k l. go k l (dec_lt k n);
  before = λ k l. N.before k (omega arith) ∙ W.before k l;
  after = λ k l. N.after k (omega arith) ∙ W.after k (omega arith);
}
  where
    go : (k : ℕ) → k < n + m → Dec (k < n) → get_or new (x + k) 0 ≡ f k
    go k l (yes h) = N.before (x + k) (omega arith) ∙ W.written k h
    go k l (no h) =
        let a : x + k ≡ x + n + (k - n) = omega arith in
        let b : n + (k - n) ≡ k = omega arith in
        ap (λ (i : ℕ). get_or new i 0) a ∙ N.written (k - n) (omega arith) ∙ same (k - n) (omega arith) ∙ ap f b

pub written_one : (f : ℕ → ℕ) (x n : ℕ) (old new new' : List ℕ) → Written f x n old new → Written f x n old new' → new ≡ new'
written_one f x n old new new' W N = ext_get_or 0 new new' (W.long ∙ sym N.long) (λ k l. go k (dec_lt k x) (dec_lt k (x + n)))
  where
    go : (k : ℕ) → Dec (k < x) → Dec (k < x + n) → get_or new k 0 ≡ get_or new' k 0
    go k (yes a) b = W.before k a ∙ sym (N.before k a)
    go k (no a) (yes b) =
        let e : x + (k - x) ≡ k = omega arith in
        subst (λ (i : ℕ). get_or new i 0 ≡ get_or new' i 0) e (W.written (k - x) (omega arith) ∙ sym (N.written (k - x) (omega arith)))
    go k (no a) (no b) = W.after k (omega arith) ∙ sym (N.after k (omega arith))
