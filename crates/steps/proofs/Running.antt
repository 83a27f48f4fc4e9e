-- Running a list of steps. Assumes nothing.
use Prim.Native.Nat.{ℕ, zero, suc, ◌+◌, ◌-◌, ◌≤◌, ◌<◌}
use mathlib.Core.Path.{◌≡◌, refl}
use mathlib.Core.Logic.{◌≢◌}
use mathlib.Core.Bool.{Bool, true, false}
use mathlib.Core.List.{List, [], ◌∷◌, ◌++◌}
use native.Mathlib.Omega.{arith}
use lib.Dec.{eqb, eqb→eq, eqb_refl, T}
use Rattle.cells.specs.Digit.{Matrix, combine}
use Rattle.steps.specs.Matrix.{Row}
use Rattle.steps.specs.Step.{Step, table_step, row_step, State, put, apply, run, opening}
use Rattle.steps.specs.StepList.{many, each}

-- ---- a row that is put

eq_true : (b : Bool) → T b → b ≡ true
eq_true true h = refl
eq_true false h = absurd h

ne_false : (i x : ℕ) → i ≢ x → eqb i x ≡ false
ne_false i x n = go (eqb i x) refl
  where
    go : (b : Bool) → eqb i x ≡ b → eqb i x ≡ false
    go false e = e
    go true e = absurd (n (eqb→eq i x (rw e tt)))

pub put_same : (M : Matrix) (x : ℕ) (r : Row) (j : ℕ) → put M x r x j ≡ r j
unfolding put
put_same M x r j = rw (eq_true (eqb x x) (eqb_refl x), put)

pub put_other : (M : Matrix) (x : ℕ) (r : Row) (i j : ℕ) → i ≢ x → put M x r i j ≡ M i j
unfolding put
put_other M x r i j n = rw (ne_false i x n, put)

-- what holds of the new row's cells, and of the other rows', holds of all
pub put_all : (Q : ℕ → Type 0) (M : Matrix) (x : ℕ) (r : Row) → ((j : ℕ) → Q (r j)) → ((i j : ℕ) → Q (M i j)) → (i j : ℕ) → Q (put M x r i j)
unfolding put
put_all Q M x r new old i j = elim (eqb i x) as (λ b. Q (elim b as (λ _. ℕ) [ true ↦ r j | false ↦ M i j ])) [ true ↦ new j | false ↦ old i j ]

-- ---- one list after another

pub run_append : (B : Matrix) (ps qs : List Step) (st : State) → run B (ps ++ qs) st ≡ run B qs (run B ps st)
unfolding run
run_append B [] qs st = refl
run_append B (p ∷ ps) qs st = run_append B ps qs (apply B p st)

-- the rule of a loop: what each part hands on to the next holds after them all
pub each_holds : (B : Matrix) (f : ℕ → List Step) (Q : ℕ → State → Type 0) (e : ℕ)
    → ((n : ℕ) → n < e → (st : State) → Q n st → Q (suc n) (run B (f n) st)) → (s : ℕ) → s ≤ e → (st : State) → Q s st → Q e (run B (each s e f) st)
unfolding each many run
each_holds B f Q e h s le = go (e - s) s (omega arith)
  where
    go : (n s : ℕ) → s + n ≡ e → (st : State) → Q s st → Q e (run B (many s n f) st)
    go zero s q st p = let q' : s ≡ e = omega arith in rw q' at p
    go (suc n) s q st p = rw run_append (go n (suc s) (omega arith) (run B (f s) st) (h s (omega arith) st p))

-- ---- every state on the way is made of digits

pub record StateDigits (st : State) : Type 0 where
  pub table : (x j : ℕ) → st.table x j < 3
  pub product : (i j : ℕ) → st.product i j < 3

pub apply_digits : (B : Matrix) (p : Step) (st : State) → StateDigits st → StateDigits (apply B p st)
unfolding apply combine
apply_digits B (table_step s x) st d = record { table = put_all (λ v. v < 3) _ _ _ (λ j. omega arith) d.table; product = d.product }
apply_digits B (row_step i e x) st d = record { table = d.table; product = put_all (λ v. v < 3) _ _ _ (λ j. omega arith) d.product }

pub run_digits : (B : Matrix) (ps : List Step) (st : State) → StateDigits st → StateDigits (run B ps st)
unfolding run
run_digits B [] st d = d
run_digits B (p ∷ ps) st d = run_digits B ps (apply B p st) (apply_digits B p st d)

pub opening_digits : StateDigits opening
unfolding opening
opening_digits = record { table = λ x j. omega arith; product = λ i j. omega arith }
