-- Demand 2: what is done is right. Each result is legal and holds the digits that it is to hold, and no other words do. Assumes nothing.
use mathlib.Core.Path.{◌≡◌, refl, ap}
use mathlib.Core.Bool.{Bool}
use mathlib.Core.List.{List}
use Prim.Native.Nat.{ℕ, ◌+◌, ◌*◌, ◌%◌, ◌^◌}
use native.Mathlib.Omega.{arith}
use Rattle.std.specs.Prelude.{Ok}
use lib.ListN.{length, get_or}
use Rattle.cells.specs.Digit.{combine, neg3, mul3}
use Rattle.buffers.specs.Buffer.{cell}
use Rattle.buffers.specs.Shows.{Shows}
use Rattle.buffers.proofs.SizeLaws.{cell_lt}
use Rattle.buffers.proofs.BufferLaws.{encode_shows}
use Rattle.requests.specs.declared.Size.{Size}
use Rattle.requests.specs.Answers.{Answer, word}
use Rattle.matrix.specs.Unpacked.{byte_at, Unpacks}
use Rattle.matrix.specs.Pack.{pack_of, pack_means}
use Rattle.matrix.specs.Unpack.{unpack_of, unpack_means}
use Rattle.matrix.specs.Combination.{combination_of, combination_means}
use Rattle.matrix.specs.Negation.{negation_of, negation_means}
use Rattle.matrix.specs.Scaling.{scaling_of, scaling_means}
use Rattle.matrix.specs.Transpose.{transpose_of, transpose_means}
use Rattle.steps.specs.Matrix.{schoolbook}
use Rattle.steps.specs.Step.{opening}
use Rattle.steps.specs.StepList.{steps}
use Rattle.steps.specs.Turn.{turn}
use Rattle.steps.proofs.Running.{run_digits, opening_digits}
use Rattle.walk.specs.Ran.{found}
use Rattle.matrix.specs.declared.job.Job.{Job}
use Rattle.matrix.specs.Job.{meant}
use Rattle.matrix.specs.Opening.{opened, opening_means}
use Rattle.matrix.specs.Turn.{turned, left_of, turned_of, turn_means}
use Rattle.matrix.specs.Product.{end_of, product_means}
use Rattle.matrix.proofs.FieldLaws.{combine_lt, neg_lt, mul_lt}
use Rattle.matrix.proofs.PackLaws.{ready}
use Rattle.matrix.proofs.UnpackLaws.{bytes_length, byte_of_lem}
use Rattle.matrix.proofs.Demand1.{combination_exact, negation_exact, scaling_exact, transpose_exact, pack_exact, unpack_exact, opening_exact, turn_exact, product_exact}
use Rattle.matrix.proofs.Demand3.{product_end}
use Rattle.requests.proofs.AnswerLaws.{none_first}

-- X plus d times Y
pub combination_right : (x y : Size) (d : ℕ) (a b out : List ℕ) (r : Answer) (o : List ℕ) → (word r, o) ≡ combination_means x y d a b out → word r ≡ 0
    → Shows x.rows x.columns (λ i j. (cell x.columns a i j + d * cell x.columns b i j) % 3) o
unfolding combination_of combine
combination_right x y d a b out r o says z =
    let c = x.columns in
    rw ((combination_exact x y d a b out r o says).right z) (encode_shows x.rows c (λ i j. combine d (cell c a i j) (cell c b i j)) (λ i j h l. combine_lt d (cell c a i j) (cell c b i j)))

module _ (s : Size) (a out : List ℕ) (r : Answer) (o : List ℕ) where
  abbrev w : ℕ
  w = s.columns

  pub negation_right : (word r, o) ≡ negation_means s a out → word r ≡ 0 → Shows s.rows w (λ i j. 2 * cell w a i j % 3) o
  unfolding negation_of neg3
  negation_right says z = rw ((negation_exact s a out r o says).right z) (encode_shows s.rows w (λ i j. neg3 (cell w a i j)) (λ i j h l. neg_lt (cell w a i j)))

  pub scaling_right : (d : ℕ) → (word r, o) ≡ scaling_means s d a out → word r ≡ 0 → Shows s.rows w (λ i j. cell w a i j * d % 3) o
  unfolding scaling_of mul3
  scaling_right d says z = rw ((scaling_exact s d a out r o says).right z) (encode_shows s.rows w (λ i j. mul3 (cell w a i j) d) (λ i j h l. mul_lt (cell w a i j) d))

  pub transpose_right : (word r, o) ≡ transpose_means s a out → word r ≡ 0 → Shows w s.rows (λ i j. cell w a j i) o
  unfolding transpose_of
  transpose_right says z = rw ((transpose_exact s a out r o says).right z) (encode_shows w s.rows (λ i j. cell w a j i) (λ i j h l. cell_lt w a j i))

  -- here a is bytes
  pub pack_right : (word r, o) ≡ pack_means s a out → word r ≡ 0 → Shows s.rows w (λ i j. get_or a (i * w + j) 0) o
  unfolding pack_of byte_at
  pack_right says z =
      let E = pack_exact s a out r o says in
      rw (E.right z) (encode_shows s.rows w (byte_at w a) (λ i j h l. (ready s a (length out) (none_first _ (E.numbered.done.0 z))).small (i * w + j)))

  pub unpack_right : (word r, o) ≡ unpack_means s a out → word r ≡ 0 → Unpacks s.rows w (cell w a) o
  unfolding unpack_of byte_at
  unpack_right says z = rw ((unpack_exact s a out r o says).right z) (record {
    long = bytes_length s.rows w (cell w a);
    digits = λ i j h l. byte_of_lem s.rows w (cell w a) i j h l;
  })

-- ---- jobs

module _ (x y : Size) (w : ℕ) (a b t p : List ℕ) where
  pub opening_right : (job : Job) (t₁ p₁ : List ℕ) → opened (Ok job) t₁ p₁ ≡ opening_means x y w a b t p
      → Shows (2 ^ meant x w) y.columns (λ i j. 0) t₁ × Shows x.rows y.columns (λ i j. 0) p₁
  opening_right job t₁ p₁ says =
      let e = (opening_exact x y w a b t p (Ok job) t₁ p₁ says).right refl in (
        rw (ap (λ (o : Job × (List ℕ × List ℕ)). o.1.0) e) (encode_shows (2 ^ meant x w) y.columns (λ i j. 0) (λ i j _ _. omega arith)),
        rw (ap (λ (o : Job × (List ℕ × List ℕ)). o.1.1) e) (encode_shows x.rows y.columns (λ i j. 0) (λ i j _ _. omega arith)),
      )

  -- the product is the schoolbook one, and the table what the whole list leaves
  pub product_right : (r : Answer) (t₁ p₁ : List ℕ) → (word r, (t₁, p₁)) ≡ product_means x y w a b t p → word r ≡ 0
      → Shows (2 ^ meant x w) y.columns (end_of x y (meant x w) a b).table t₁ × Shows x.rows y.columns (schoolbook x.columns (cell x.columns a) (cell y.columns b)) p₁
  unfolding end_of schoolbook
  product_right r t₁ p₁ says z =
      let e = (product_exact x y w a b t p r (t₁, p₁) says).right z in
      let digits = run_digits (cell y.columns b) (steps x.rows x.columns (meant x w) (cell x.columns a)) opening opening_digits in (
        rw (ap (λ (o : List ℕ × List ℕ). o.0) e) (encode_shows (2 ^ meant x w) y.columns (end_of x y (meant x w) a b).table (λ i j _ _. digits.table i j)),
        rw (product_end x y w a b t p r t₁ p₁ says z) (encode_shows x.rows y.columns _ (λ i j _ _. omega arith)),
      )

-- the next steps of the list, on the contents as found
pub turn_right : (job : Job) (a b t p : List ℕ) (budget : ℕ) (job₁ : Job) (n : ℕ) (ended : Bool) (t₁ p₁ : List ℕ)
    → turned (Ok (record { job = job₁; made = n; finished = ended })) t₁ p₁ ≡ turn_means job a b t p budget
    → Shows (2 ^ job.width) job.n (left_of job a b t p budget).state.table t₁ × Shows job.m job.n (left_of job a b t p budget).state.product p₁
unfolding turned_of turn found
turn_right job a b t p budget job₁ n ended t₁ p₁ says =
    let e = (turn_exact job a b t p budget (Ok (record { job = job₁; made = n; finished = ended })) t₁ p₁ says).right refl in
    let digits = run_digits (cell job.n b) _ (found job.n t p) (record { table = λ i j. cell_lt job.n t i j; product = λ i j. cell_lt job.n p i j }) in (
      rw (ap (λ (o : Job × (ℕ × (Bool × (List ℕ × List ℕ)))). o.1.1.1.0) e) (encode_shows (2 ^ job.width) job.n _ (λ i j _ _. digits.table i j)),
      rw (ap (λ (o : Job × (ℕ × (Bool × (List ℕ × List ℕ)))). o.1.1.1.1) e) (encode_shows job.m job.n _ (λ i j _ _. digits.product i j)),
    )
