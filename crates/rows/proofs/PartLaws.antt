-- A part of a slice, from word a to word e, that is lent to be written and comes back. Assumes nothing.
use mathlib.Core.Path.{◌≡◌, refl, ap, subst, ◌∙◌}
use mathlib.Core.Logic.{inl, inr, ⊎_elim}
use mathlib.Core.List.{List, ◌++◌}
use Prim.Native.Nat.{ℕ, ◌+◌, ◌-◌, ◌*◌, ◌≤◌, ◌<◌}
use native.Mathlib.Nat.{le_refl}
use native.Mathlib.Decide.{dec_lt}
use native.Mathlib.Omega.{arith}
use lib.ListN.{length, get_or, take, drop, length-append, length-drop, get_or-append}
use lib.Seq.{get_or-append-add, get_or-take, get_or-drop, length-take-le}
use Rattle.rows.specs.Row.{digit_at, LegalRow, of2, Made, Readable, InPlace}
use Rattle.rows.proofs.RowLaws.{digit_at_by, made_cong}

module _ (a e : ℕ) (xs : List ℕ) (order : a ≤ e) (inside : e ≤ length xs) where
  abbrev pub part : List ℕ
  part = take (e - a) (drop a xs)

  pub part_length : length part ≡ e - a
  part_length = length-take-le (e - a) (drop a xs) (omega (arith, length-drop a xs))

  pub part_at : (k : ℕ) → k < e - a → get_or part k 0 ≡ get_or xs (a + k) 0
  part_at k l = get_or-take (e - a) (drop a xs) k 0 l ∙ get_or-drop a xs k 0

  module _ (row : List ℕ) (long : length row ≡ e - a) where
    abbrev pub back : List ℕ
    back = take a xs ++ (row ++ drop (e - a) (drop a xs))

    taken : length (take a xs) ≡ a
    taken = length-take-le a xs (omega arith)

    pub back_length : length back ≡ length xs
    back_length =
        length-append (take a xs) (row ++ drop (e - a) (drop a xs))
        ∙ omega (arith, taken, length-append row (drop (e - a) (drop a xs)), length-drop (e - a) (drop a xs), length-drop a xs)

    pub back_low : (k : ℕ) → k < a → get_or back k 0 ≡ get_or xs k 0
    back_low k l = get_or-append (take a xs) (row ++ drop (e - a) (drop a xs)) 0 k (omega (arith, taken)) ∙ get_or-take a xs k 0 l

    pub back_mid : (k : ℕ) → k < e - a → get_or back (a + k) 0 ≡ get_or row k 0
    back_mid k l =
        subst (λ (m : ℕ). get_or back (m + k) 0 ≡ get_or row k 0) taken
        (get_or-append-add (take a xs) (row ++ drop (e - a) (drop a xs)) k 0 ∙ get_or-append row (drop (e - a) (drop a xs)) 0 k (omega arith))

    pub back_high : (k : ℕ) → e ≤ k → get_or back k 0 ≡ get_or xs k 0
    back_high k l =
        let i : k ≡ length (take a xs) + (length row + (k - e)) = omega (arith, taken) in
        let j : a + (e - a + (k - e)) ≡ k = omega arith in
        ap (λ (m : ℕ). get_or back m 0) i ∙ get_or-append-add (take a xs) (row ++ drop (e - a) (drop a xs)) (length row + (k - e)) 0
        ∙ get_or-append-add row (drop (e - a) (drop a xs)) (k - e) 0
        ∙ get_or-drop (e - a) (drop a xs) (k - e) 0
        ∙ get_or-drop a xs (e - a + (k - e)) 0
        ∙ ap (λ (m : ℕ). get_or xs m 0) j

  -- the row at word x of the slice is the one at word x - a of the part
  module _ (x o q : ℕ) (place : x ≡ a + o) (room : x + (q + q) ≤ e) where
    part_unit : (p : ℕ) → p < q → get_or part (o + p) 0 ≡ get_or xs (x + p) 0
    part_unit p l =
        let i : a + (o + p) ≡ x + p = omega arith in
        part_at (o + p) (omega arith) ∙ ap (λ (k : ℕ). get_or xs k 0) i

    part_sign : (p : ℕ) → p < q → get_or part (o + q + p) 0 ≡ get_or xs (x + q + p) 0
    part_sign p l =
        let i : a + (o + q + p) ≡ x + q + p = omega arith in
        part_at (o + q + p) (omega arith) ∙ ap (λ (k : ℕ). get_or xs k 0) i

    pub part_readable : Readable q q x xs → Readable q q o part
    unfolding LegalRow
    part_readable R = record {
      room = omega (arith, part_length);
      legal = λ p l. rw (part_unit p l, part_sign p l) (R.legal p l);
    }

    pub part_digit : (p t : ℕ) → p < q → digit_at part o q p t ≡ digit_at xs x q p t
    part_digit p t l = digit_at_by part xs o x q p p (part_unit p l) (part_sign p l) t

    -- a row made in the part is made in the slice
    pub part_made : (f : ℕ → ℕ → ℕ) (row : List ℕ) → Made f o q q part row → Made f x q q xs (take a xs ++ (row ++ drop (e - a) (drop a xs)))
    part_made f row M = record {
      long = back_length row long;
      made = λ p l. rw (unit p l, sign p l) (M.made p l);
      before = λ k l. go k l (dec_lt k a);
      between = λ k l m. absurd (omega arith);
      after = λ k l. above k l (dec_lt k e);
    }
      where
        long : length row ≡ e - a
        long = M.long ∙ part_length

        unit : (p : ℕ) → p < q → get_or (take a xs ++ (row ++ drop (e - a) (drop a xs))) (x + p) 0 ≡ get_or row (o + p) 0
        unit p l =
            let i : x + p ≡ a + (o + p) = omega arith in
            rw i (back_mid row long (o + p) (omega arith))

        sign : (p : ℕ) → p < q → get_or (take a xs ++ (row ++ drop (e - a) (drop a xs))) (x + q + p) 0 ≡ get_or row (o + q + p) 0
        sign p l =
            let i : x + q + p ≡ a + (o + q + p) = omega arith in
            rw i (back_mid row long (o + q + p) (omega arith))

        inner : (k : ℕ) → a ≤ k → k < e → get_or row (k - a) 0 ≡ get_or part (k - a) 0 → get_or (take a xs ++ (row ++ drop (e - a) (drop a xs))) k 0 ≡ get_or xs k 0
        inner k l m h =
            let i : a + (k - a) ≡ k = omega arith in
            subst (λ (j : ℕ). get_or (take a xs ++ (row ++ drop (e - a) (drop a xs))) j 0 ≡ get_or xs j 0) i
            (back_mid row long (k - a) (omega arith) ∙ h ∙ part_at (k - a) (omega arith))

        go : (k : ℕ) → k < x → Dec (k < a) → get_or (take a xs ++ (row ++ drop (e - a) (drop a xs))) k 0 ≡ get_or xs k 0
        go k l (yes h) = back_low row long k h
        go k l (no h) = inner k (omega arith) (omega arith) (M.before (k - a) (omega arith))

        above : (k : ℕ) → x + q + q ≤ k → Dec (k < e) → get_or (take a xs ++ (row ++ drop (e - a) (drop a xs))) k 0 ≡ get_or xs k 0
        above k l (yes h) = inner k (omega arith) h (M.after (k - a) (omega arith))
        above k l (no h) = back_high row long k (omega arith)

-- ---- the part from row y to the end of row x, which is made of row y

module _ {q x y z : ℕ} {t b : List ℕ} (R : InPlace q q x y z t b) (o : ℕ) (place : x ≡ y + o) where
  starts : y + (q + q) ≤ x + 2 * q
  starts = ⊎_elim (λ e. omega arith) (λ e. omega arith) R.apart

  inside : x + 2 * q ≤ length t
  inside = omega (arith, R.room)

  abbrev its : List ℕ
  its = take (x + 2 * q - y) (drop y t)

  pub lent : InPlace q q o 0 z its b
  lent = record {
    fits = R.fits;
    room = omega (arith, part_length y (x + 2 * q) t (omega arith) inside);
    first = part_readable y (x + 2 * q) t (omega arith) inside y 0 q (omega arith) starts R.first;
    second = R.second;
    apart = ⊎_elim (λ e. inl (omega arith)) (λ e. inr (omega arith)) R.apart;
  }

  -- a row that is made in the part is made in the slice
  pub returned : (op : ℕ → ℕ → ℕ) {row : List ℕ} → Made (of2 op q its 0 b z) o q q its row → Made (of2 op q t y b z) x q q t (take y t ++ (row ++ drop (x + 2 * q - y) (drop y t)))
  unfolding of2
  returned op {row} M =
      part_made y (x + 2 * q) t (omega arith) inside x o q place (omega arith) (of2 op q t y b z) row
      (made_cong (of2 op q its 0 b z) (of2 op q t y b z) o q q _ _
      (λ p k l. ap (λ (d : ℕ). op d (digit_at b z q p k)) (part_digit y (x + 2 * q) t (omega arith) inside y 0 q (omega arith) starts p k l)) M)

-- a row is made in place of itself and another
pub own : {q x y : ℕ} {t b : List ℕ} → Readable q q x t → Readable q q y b → InPlace q q x x y t b
own {q} R S = record { fits = le_refl q; room = R.room; first = R; second = S; apart = inl refl }

-- or of a row before it and another
pub apart : {q x y z : ℕ} {t b : List ℕ} → y + (q + q) ≤ x → x + (q + q) ≤ length t → Readable q q y t → Readable q q z b → InPlace q q x y z t b
apart {q} h room R S = record { fits = le_refl q; room = omega arith; first = R; second = S; apart = inr h }
