-- Steps on buffers, one after another. Assumes nothing.
use mathlib.Core.Path.{◌≡◌, refl, sym, ap, ◌∙◌}
use mathlib.Core.List.{List, [], ◌∷◌, ◌++◌}
use Prim.Native.Nat.{ℕ, ◌+◌, ◌*◌, ◌^◌, ◌<◌}
use native.Mathlib.Omega.{arith}
use Rattle.cells.specs.Digit.{Matrix, combine}
use Rattle.buffers.specs.Buffer.{planes, cell, Legal, Words, encode}
use Rattle.buffers.proofs.SizeLaws.{cell_lt}
use Rattle.buffers.proofs.BufferLaws.{cell_encode, encode_cell, encode_legal, encode_within}
use Rattle.rows.specs.Row.{of2, Made}
use Rattle.steps.specs.Step.{Step, table_step, row_step, State, lowest_bit, cleared, apply, run}
use Rattle.steps.proofs.Fits.{AllFit}
use Rattle.steps.proofs.Running.{StateDigits, run_append, run_digits}
use Rattle.steps.proofs.Same.{SameState, run_same}
use Rattle.walk.specs.Ran.{found, Ran}
use Rattle.walk.proofs.PutLaws.{op_put}

pub found_digits : (n : ℕ) (t p : List ℕ) → StateDigits (found n t p)
unfolding found
found_digits n t p = record { table = cell_lt n t; product = cell_lt n p }

module _ (k m n : ℕ) (B : Matrix) where
  pub ran_none : (t p : List ℕ) → Legal (2 ^ k) n t → Words t → Legal m n p → Words p → Ran k m n B [] t p t p
  unfolding run found
  ran_none t p L fits K fits' = record { table = sym (encode_cell (2 ^ k) n t L fits); product = sym (encode_cell m n p K fits') }

  module _ (ps : List Step) (t p t' p' : List ℕ) (R : Ran k m n B ps t p t' p') where
    pub ran_table : Legal (2 ^ k) n t'
    ran_table = rw R.table (encode_legal (2 ^ k) n (run B ps (found n t p)).table)

    pub ran_product : Legal m n p'
    ran_product = rw R.product (encode_legal m n (run B ps (found n t p)).product)

    -- what is found afterwards is the state that the steps left, within the sizes
    pub ran_found : SameState k m n (found n t' p') (run B ps (found n t p))
    unfolding found
    ran_found =
        let d = run_digits B ps (found n t p) (found_digits n t p) in
        record {
          table = rw R.table (λ x j h l. cell_encode (2 ^ k) n (run B ps (found n t p)).table x j h l (d.table x j));
          product = rw R.product (λ i j h l. cell_encode m n (run B ps (found n t p)).product i j h l (d.product i j));
        }

  -- first ps, and then qs
  pub ran_more : (l : ℕ) (ps qs : List Step) (t p t' p' t'' p'' : List ℕ) → AllFit m l k qs → Ran k m n B ps t p t' p' → Ran k m n B qs t' p' t'' p'' → Ran k m n B (ps ++ qs) t p t'' p''
  ran_more l ps qs t p t' p' t'' p'' fit R T =
      let S = run_same k m l n B B (λ i j h q. refl) qs (found n t' p') (run B ps (found n t p)) fit (ran_found ps t p t' p' R) in
      record {
        table = T.table ∙ encode_within (2 ^ k) n _ _ S.table ∙ ap (λ (st : State). encode (2 ^ k) n st.table) (sym (run_append B ps qs (found n t p)));
        product = T.product ∙ encode_within m n _ _ S.product ∙ ap (λ (st : State). encode m n st.product) (sym (run_append B ps qs (found n t p)));
      }

-- ---- one step

module _ (k m n q : ℕ) (e : q ≡ planes n) (t p : List ℕ) (L : Legal (2 ^ k) n t) (fits : Words t) (K : Legal m n p) (fits' : Words p) where
  pub ran_table_step : (l : ℕ) (b t' : List ℕ) (s x y z : ℕ) → Legal l n b → 0 < x → x < 2 ^ k → y ≡ cleared x → y < x → z ≡ s + lowest_bit x → z < l
      → Made (of2 (combine 1) q t (y * (2 * q)) b (z * (2 * q))) (x * (2 * q)) q q t t' → Ran k m n (cell n b) (table_step s x ∷ []) t p t' p
  unfolding run apply found combine
  ran_table_step l b t' s x y z J pos h ey hy ez hz M = record {
    table =
        op_put (combine 1) refl (2 ^ k) n x q t (2 ^ k) y t l z b t' e L fits L J h (omega arith) hz M
        ∙ rw (ey, ez);
    product = sym (encode_cell m n p K fits');
  }

  pub ran_row_step : (B : Matrix) (i d x : ℕ) (p' : List ℕ) → i < m → x < 2 ^ k → Made (of2 (combine d) q p (i * (2 * q)) t (x * (2 * q))) (i * (2 * q)) q q p p' → Ran k m n B (row_step i d x ∷ []) t p t p'
  unfolding run apply found combine
  ran_row_step B i d x p' h hx M = record {
    table = sym (encode_cell (2 ^ k) n t L fits);
    product = op_put (combine d) (omega arith) m n i q p m i p (2 ^ k) x t p' e K fits' K L h h hx M;
  }
