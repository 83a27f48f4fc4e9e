-- Demand 3, carried over to the C face's record and buffers: for two legal matrices of at most 64 rows and columns that fit and any width, after
-- any accepted turns with any budgets on the bytes as last left, the record's words are m, l, n, the width, and the smaller of the budgets' sum
-- and the list's length; table and product are the bytes of what that many first steps leave. At the end the product is the schoolbook one.
-- Assumes nothing.
use mathlib.Core.Path.{◌≡◌, refl, sym, ap, ◌∙◌}
use mathlib.Core.Bool.{Bool, true, false, cond}
use mathlib.Core.List.{List}
use Prim.Native.Nat.{ℕ, zero, suc, ◌+◌, ◌*◌, ◌/◌, ◌^◌, ◌≤◌, ◌<◌, min}
use native.Mathlib.Omega.{arith}
use lib.Dec.{eqb}
use lib.ListN.{length}
use borrow.Author.Tests.{le-ltb, eq-eqb, ne_eqb}
use Rattle.buffers.specs.Buffer.{words, cell, Words, Legal, encode}
use Rattle.buffers.proofs.BufferLaws.{tests_legal, encode_length, encode_words}
use Rattle.requests.specs.declared.Size.{Size}
use Rattle.requests.specs.Answers.{first, left}
use Rattle.requests.specs.Faults.{faults}
use Rattle.requests.proofs.SizeLaws.{not_over}
use Rattle.requests.proofs.AnswerLaws.{none_first, finished, done_makes, append_front}
use Rattle.steps.specs.Matrix.{schoolbook}
use Rattle.steps.specs.Step.{State, run, opening}
use Rattle.steps.specs.StepList.{steps}
use Rattle.steps.specs.Count.{total}
use Rattle.steps.specs.Turn.{after, made, all_budgets, Given}
use Rattle.steps.proofs.Most.{total_most}
use Rattle.steps.proofs.Running.{run_digits, opening_digits}
use Rattle.steps.proofs.Turns.{made_done, turns_from_start}
use Rattle.matrix.specs.declared.job.Job.{Job}
use Rattle.matrix.specs.Job.{meant, table_size, product_size, total_of}
use Rattle.matrix.specs.Opening.{opened_of}
use Rattle.matrix.specs.Turn.{size_a, size_b}
use Rattle.matrix.specs.Stands.{state_at, job_at}
use Rattle.matrix.specs.Record.{job_in, record_of}
use Rattle.matrix.proofs.JobLaws.{meant_pos, meant_le, Fitting, opening_ready}
use Rattle.matrix.proofs.Demand3.{turn_at, end_right}
use Rattle.wordbytes.specs.Bytes.{words_in, bytes_of}
use Rattle.cface.specs.Limit.{above, unfit_bytes, misfit_bytes}
use Rattle.cface.specs.Record.{unfit_record}
use Rattle.cface.specs.Open.{open_sizes, open_face_tests, open_bytes, open_face}
use Rattle.cface.specs.Turn.{turn_sizes, turn_face}
use Rattle.cface.specs.Stands.{Held, Stands}
use Rattle.cface.specs.JobShows.{Reached}
use Rattle.wordbytes.proofs.ByteLaws.{words_bytes, bytes_length}
use Rattle.wordbytes.proofs.ShowsBytesLaws.{encode_shows_bytes}
use Rattle.cface.proofs.JobCarryLaws.{Fits, open_fits, open_same, turn_carried}

-- ---- the record

-- the job is read back from its record's words, whatever the last two are
pub job_read : (job : Job) (made : ℕ) (ended : Bool) → job_in (record_of job made ended) ≡ job
unfolding job_in record_of
job_read job made ended = refl

flag_lt : (ended : Bool) → cond ended 1 0 < 2
flag_lt true = omega arith
flag_lt false = omega arith

pub record_words : (job : Job) (made : ℕ) (ended : Bool) → job.m < 2 ^ 64 → job.l < 2 ^ 64 → job.n < 2 ^ 64 → job.width < 2 ^ 64 → job.done < 2 ^ 64 → made < 2 ^ 64 → Words (record_of job made ended)
unfolding record_of
record_words job made ended m l n w d h zero = m
record_words job made ended m l n w d h (suc zero) = l
record_words job made ended m l n w d h (suc (suc zero)) = n
record_words job made ended m l n w d h (suc (suc (suc zero))) = w
record_words job made ended m l n w d h (suc (suc (suc (suc zero)))) = d
record_words job made ended m l n w d h (suc (suc (suc (suc (suc zero))))) = h
record_words job made ended m l n w d h (suc (suc (suc (suc (suc (suc zero)))))) = omega (arith, flag_lt ended)
record_words job made ended m l n w d h (suc (suc (suc (suc (suc (suc (suc k))))))) = omega arith

-- ---- tests that do not hold

within : (s : Size) → s.rows ≤ 64 → s.columns ≤ 64 → above s ≡ false
unfolding above
within s h l = rw (le-ltb 64 s.rows h, le-ltb 64 s.columns l)

fits : (s : Size) (n : ℕ) → n ≡ 8 * words s.rows s.columns → unfit_bytes s n ≡ false
unfolding unfit_bytes
fits s n e = rw (eq-eqb n (8 * words s.rows s.columns) e)

encoded_length : (r c : ℕ) (M : ℕ → ℕ → ℕ) → length (bytes_of (encode r c M)) ≡ 8 * words r c
encoded_length r c M = bytes_length (encode r c M) ∙ ap (λ (n : ℕ). 8 * n) (encode_length r c M)

-- ---- turns

-- an accepted turn, which is handed the bytes as last left
abbrev pub Accepted : List ℕ → List ℕ → ℕ → Held → Held → Type 0
Accepted a b budget s s₁ = ◌≡◌ {A = ℕ × Held} (0, s₁) (turn_face s.0 a b s.1.0 s.1.1 budget)

module _ (x y : Size) (w : ℕ) (a b : List ℕ) (hm : x.rows ≤ 64) (hl : x.columns ≤ 64) (hn : y.columns ≤ 64) (hw : w ≤ 8) (la : length a ≡ 8 * words x.rows x.columns) (lb : length b ≡ 8 * words x.columns y.columns) (LA : Legal x.rows x.columns (words_in a)) (LB : Legal x.columns y.columns (words_in b)) where
  im : x.rows ≤ 1024
  im = omega arith

  il : x.columns ≤ 1024
  il = omega arith

  jn : y.columns ≤ 1024
  jn = omega arith

  -- the list's length; the state after the first d steps, and the record, the table and the product of a job that stands there
  abbrev pub long : ℕ
  long = total x.rows x.columns (meant x w) (cell x.columns (words_in a))

  abbrev pub at : ℕ → State
  at d = state_at x y (meant x w) (words_in a) (words_in b) d

  abbrev pub job_of : ℕ → Job
  job_of d = job_at x y (meant x w) d

  abbrev pub record_at : ℕ → ℕ → Bool → List ℕ
  record_at d made ended = bytes_of (record_of (job_of d) made ended)

  abbrev pub table_at : ℕ → List ℕ
  table_at d = bytes_of (encode (2 ^ meant x w) y.columns (at d).table)

  abbrev pub product_at : ℕ → List ℕ
  product_at d = bytes_of (encode x.rows y.columns (at d).product)

  long_small : long ≤ 1050112
  long_small = total_most x.rows x.columns (meant x w) (cell x.columns (words_in a)) im il (meant_le x w hw)

  -- the steps that a turn makes after d of them, and where it stands then
  abbrev makes : ℕ → ℕ → ℕ
  makes d budget = made (steps x.rows x.columns (meant x w) (cell x.columns (words_in a))) d budget

  abbrev next : ℕ → ℕ → ℕ
  next d budget = min (d + budget) long

  words_at : (d made : ℕ) (ended : Bool) → d ≤ long → made < 2 ^ 64 → words_in (record_at d made ended) ≡ record_of (job_of d) made ended
  words_at d made ended h small-made =
      words_bytes _ (record_words (job_of d) made ended (omega arith) (omega arith) (omega arith) (omega (arith, meant_le x w hw)) (omega (arith, long_small)) small-made)

  no_size : (d made : ℕ) (ended : Bool) → first (turn_sizes (job_of d) (length (record_at d made ended)) (length a) (length b) (length (table_at d)) (length (product_at d))) ≡ 0
  unfolding turn_sizes unfit_record misfit_bytes record_of
  no_size d made ended =
      none_first _ (
        rw (eq-eqb (length (record_at d made ended)) (8 * 7) (bytes_length (record_of (job_of d) made ended))),
        (
          rw (not_over (size_a (job_of d)) im il) (not_over (size_b (job_of d)) il jn),
          (
            rw (within (size_a (job_of d)) hm hl) (within (size_b (job_of d)) hl hn),
            (
              rw (ne_eqb (meant x w) 0 (λ e. omega (arith, meant_pos x w))) (le-ltb 8 (meant x w) (meant_le x w hw)),
              (
                rw (fits (size_a (job_of d)) (length a) la, fits (size_b (job_of d)) (length b) lb, fits (table_size y (meant x w)) (length (table_at d)) (encoded_length (2 ^ meant x w) y.columns _))
                    (fits (product_size x y) (length (product_at d)) (encoded_length x.rows y.columns _)),
                tt,
              ),
            ),
          ),
        ),
      )

  -- these matrices are opened with any table and product of the right length, whatever the record's 56 bytes were
  pub opens : (job t p : List ℕ) → x.columns ≡ y.rows → length job ≡ 56 → length t ≡ 8 * words (2 ^ meant x w) y.columns → length p ≡ 8 * words x.rows y.columns
      → open_face x y w job a b t p ≡ (0, (record_at 0 0 false, (table_at 0, product_at 0)))
  unfolding open_face open_face_tests open_sizes unfit_record misfit_bytes faults after run opening
  opens job t p same r lt lp =
      let ta = tests_legal x.rows x.columns (words_in a) LA in
      let LY : Legal y.rows y.columns (words_in b) = rw (← same) LB in
      let tb = tests_legal y.rows y.columns (words_in b) LY in
      let ly : length b ≡ 8 * words y.rows y.columns = rw (← same) lb in
      let hy : y.rows ≤ 64 = omega arith in
      sym (finished _ _ _ _ (none_first (open_face_tests x y w (length job) a b (length t) (length p)) (
        rw (eq-eqb (length job) (8 * 7) r),
        (
          rw (not_over x im il) (not_over y (omega arith) jn),
          (
            rw (within x hm hl) (within y hy hn),
            (
              rw (eq-eqb x.columns y.rows same),
              (
                le-ltb 8 w hw,
                (
                  rw (fits x (length a) la, fits y (length b) ly, fits (table_size y (meant x w)) (length t) lt) (fits (product_size x y) (length p) lp),
                  (ta.0, (ta.1, (tb.0, (tb.1, tt)))),
                ),
              ),
            ),
          ),
        ),
      )) refl)

  -- a turn of a job that stands at d is accepted; the record says the steps made and whether the list has ended
  pub turn_stands : (d budget made : ℕ) (ended : Bool) → d ≤ long → made < 2 ^ 64
      → turn_face (record_at d made ended) a b (table_at d) (product_at d) budget
      ≡ (0, (record_at (next d budget) (makes d budget) (eqb (next d budget) long), (table_at (next d budget), product_at (next d budget))))
  unfolding left
  turn_stands d budget made ended h small-made =
      sym (turn_carried (job_of d) (record_at d made ended) a b (table_at d) (product_at d) (words_in a) (words_in b) (encode (2 ^ meant x w) y.columns (at d).table) (encode x.rows y.columns (at d).product) _ _ budget _ _ _ 0 0
      (sym (ap job_in (words_at d made ended h small-made) ∙ job_read (job_of d) made ended)) (no_size d made ended) refl refl (sym (words_bytes _ (encode_words (2 ^ meant x w) y.columns _))) (sym (words_bytes _ (encode_words x.rows y.columns _))) refl
      (sym (turn_at x y w (words_in a) (words_in b) im il jn hw LA LB d budget h)))

  -- a job of these matrices that stands at d
  abbrev pub At : ℕ → List ℕ → List ℕ → List ℕ → Type 0
  At = Stands x y (meant x w) a b

  Outcome : Type 0
  Outcome = ℕ × (List ℕ × (List ℕ × List ℕ))

  meaning : (d budget : ℕ) (job t p : List ℕ) (S : At d job t p) → turn_face job a b t p budget ≡ turn_face (record_at d S.made S.ended) a b (table_at d) (product_at d) budget
  meaning d budget job t p S = rw (S.record_is, S.table_is, S.product_is)

  next_stands : (d budget : ℕ) (job t p : List ℕ) → d ≤ long → At d job t p
      → turn_face job a b t p budget ≡ (0, (record_at (next d budget) (makes d budget) (eqb (next d budget) long), (table_at (next d budget), product_at (next d budget))))
  next_stands d budget job t p h S = meaning d budget job t p S ∙ turn_stands d budget S.made S.ended h S.made_fits

  pub accepted : (d budget : ℕ) (job t p : List ℕ) → d ≤ long → At d job t p → (turn_face job a b t p budget).0 ≡ 0
  unfolding Outcome
  accepted d budget job t p h S = ap (λ (o : Outcome). o.0) (next_stands d budget job t p h S)

  abbrev Stand : ℕ → Held → Type 0
  Stand d s = At d s.0 s.1.0 s.1.1

  one_turn : (d budget : ℕ) (s s₁ : Held) → d ≤ long → Stand d s → Accepted a b budget s s₁ → Stand (next d budget) s₁
  unfolding Outcome made total
  one_turn d budget s s₁ h S says =
      let e = says ∙ next_stands d budget s.0 s.1.0 s.1.1 h S in
      record {
        made = makes d budget;
        ended = eqb (next d budget) long;
        made_fits = omega (arith, long_small);
        record_is = ap (λ (o : Outcome). o.1.0) e;
        table_is = ap (λ (o : Outcome). o.1.1.0) e;
        product_is = ap (λ (o : Outcome). o.1.1.1) e;
      }

  pub turns_stand : (budgets : List ℕ) (s s₁ : Held) → Stand 0 s → Given (Accepted a b) s budgets s₁ → Stand (min (all_budgets budgets) long) s₁
  turns_stand = turns_from_start (Accepted a b) Stand long one_turn

  -- in demand 2's words: the record's first five words, and the digits of table and product
  pub stands_reached : (d : ℕ) (job t p : List ℕ) → d ≤ long → At d job t p → Reached x y (meant x w) a b d (job, (t, p))
  unfolding after record_of
  stands_reached d job t p h S =
      let digits = run_digits (cell y.columns (words_in b)) _ opening opening_digits in
      record {
        long = ap length S.record_is ∙ bytes_length (record_of (job_of d) S.made S.ended);
        words = ap (λ (bs : List ℕ). job_in (words_in bs)) S.record_is ∙ ap job_in (words_at d S.made S.ended h S.made_fits) ∙ job_read (job_of d) S.made S.ended;
        table = rw S.table_is (encode_shows_bytes (2 ^ meant x w) y.columns _ (λ i j _ _. digits.table i j));
        product = rw S.product_is (encode_shows_bytes x.rows y.columns _ (λ i j _ _. digits.product i j));
      }

  -- the end: the schoolbook product, for every width
  pub end_stands : (d : ℕ) → long ≤ d → product_at d ≡ bytes_of (encode x.rows y.columns (schoolbook x.columns (cell x.columns (words_in a)) (cell y.columns (words_in b))))
  end_stands d h = ap bytes_of (end_right x y w (words_in a) (words_in b) im il jn hw LA LB d h)

-- ---- from an opening on

module _ (x y : Size) (w : ℕ) (job a b t p job₀ t₀ p₀ : List ℕ) (opened : ◌≡◌ {A = ℕ × (List ℕ × (List ℕ × List ℕ))} (0, (job₀, (t₀, p₀))) (open_face x y w job a b t p)) where
  as_new : (first (open_face_tests x y w (length job) a b (length t) (length p)) ≡ 0) × ((job₀, (t₀, p₀)) ≡ open_bytes (opened_of x y w))
  unfolding open_face
  as_new = done_makes (open_face_tests x y w (length job) a b (length t) (length p)) _ (open_bytes (opened_of x y w)) (job₀, (t₀, p₀)) opened

  sizes : first (open_sizes x y w (length job) (length a) (length b) (length t) (length p)) ≡ 0
  unfolding open_face_tests open_sizes
  sizes = append_front (open_sizes x y w (length job) (length a) (length b) (length t) (length p)) _ tt as_new.0

  pub F : Fits x y w (length job) a b (length t) (length p)
  F = open_fits x y w (length job) a b (length t) (length p) sizes

  -- what an accepted opening is of
  pub facts : Fitting x y w (words_in a) (words_in b) (length t / 8) (length p / 8)
  facts =
      opening_ready x y w (words_in a) (words_in b) (length t / 8) (length p / 8)
      (open_same x y w (length job) a b (length t) (length p) sizes (length t / 8) (length p / 8) F.table F.product ∙ as_new.0)

  abbrev Standing : ℕ → List ℕ → List ℕ → List ℕ → Type 0
  Standing = Stands x y (meant x w) a b

  pub started : Standing 0 job₀ t₀ p₀
  unfolding after run opening
  started = record {
    made = 0;
    ended = false;
    made_fits = omega arith;
    record_is = ap (λ (o : List ℕ × (List ℕ × List ℕ)). o.0) as_new.1;
    table_is = ap (λ (o : List ℕ × (List ℕ × List ℕ)). o.1.0) as_new.1;
    product_is = ap (λ (o : List ℕ × (List ℕ × List ℕ)). o.1.1) as_new.1;
  }

  -- a turn of a job that stands at d: it is done, and the job stands as far on as the budget and the length allow
  pub turn_goes_on : (d budget n : ℕ) (s s₁ : Held) → d ≤ total_of x (meant x w) (words_in a) → Standing d s.0 s.1.0 s.1.1 → (n, s₁) ≡ turn_face s.0 a b s.1.0 s.1.1 budget
      → (n ≡ 0) × Standing (min (d + budget) (total_of x (meant x w) (words_in a))) s₁.0 s₁.1.0 s₁.1.1
  turn_goes_on d budget n s s₁ h S says =
      let z : n ≡ 0 = ap (λ (o : ℕ × Held). o.0) says ∙ accepted x y w a b F.m F.l F.n F.narrow F.bytes_a F.bytes_b facts.left facts.right d budget s.0 s.1.0 s.1.1 h S in
      (z, one_turn x y w a b F.m F.l F.n F.narrow F.bytes_a F.bytes_b facts.left facts.right d budget s s₁ h S (rw z at says))

  -- what a host sees of a job that stands at d
  pub seen_standing : (d : ℕ) (job₁ t₁ p₁ : List ℕ) → d ≤ total_of x (meant x w) (words_in a) → Standing d job₁ t₁ p₁ → Reached x y (meant x w) a b d (job₁, (t₁, p₁))
  seen_standing = stands_reached x y w a b F.m F.l F.n F.narrow F.bytes_a F.bytes_b facts.left facts.right

  module _ (budgets : List ℕ) (job₁ t₁ p₁ : List ℕ) (given : Given (Accepted a b) (job₀, (t₀, p₀)) budgets (job₁, (t₁, p₁))) where
    abbrev reached : ℕ
    reached = min (all_budgets budgets) (total_of x (meant x w) (words_in a))

    -- the record stands at the smaller of the budgets' sum and the list's length, and the buffers hold what that many first steps leave
    pub demand_3 : Standing reached job₁ t₁ p₁
    demand_3 = turns_stand x y w a b F.m F.l F.n F.narrow F.bytes_a F.bytes_b facts.left facts.right budgets (job₀, (t₀, p₀)) (job₁, (t₁, p₁)) started given

    -- at the end the product is the schoolbook one, whatever the width
    pub demand_3_end : total_of x (meant x w) (words_in a) ≤ all_budgets budgets → p₁ ≡ bytes_of (encode x.rows y.columns (schoolbook x.columns (cell x.columns (words_in a)) (cell y.columns (words_in b))))
    demand_3_end h = demand_3.product_is ∙ end_stands x y w a b F.m F.l F.n F.narrow F.bytes_a F.bytes_b facts.left facts.right reached (omega arith)

    -- the next turn is accepted too
    pub demand_3_goes_on : (budget : ℕ) → (turn_face job₁ a b t₁ p₁ budget).0 ≡ 0
    demand_3_goes_on budget = accepted x y w a b F.m F.l F.n F.narrow F.bytes_a F.bytes_b facts.left facts.right reached budget job₁ t₁ p₁ (omega arith) demand_3

    -- the record's words: m, l, n, the width and the steps done, and then the two of the last turn
    pub demand_3_record : words_in job₁ ≡ record_of (record { m = x.rows; l = x.columns; n = y.columns; width = meant x w; done = reached }) demand_3.made demand_3.ended
    demand_3_record =
        ap words_in demand_3.record_is
        ∙ words_at x y w a b F.m F.l F.n F.narrow F.bytes_a F.bytes_b facts.left facts.right reached demand_3.made demand_3.ended (omega arith) demand_3.made_fits

    abbrev makes_next : ℕ → ℕ
    makes_next budget = made (steps x.rows x.columns (meant x w) (cell x.columns (words_in a))) reached budget

    -- one turn more: the last two words say the steps that it made, and whether the list has ended
    pub demand_3_last : (budget : ℕ) → (turn_face job₁ a b t₁ p₁ budget).1.0
        ≡ bytes_of (record_of (record { m = x.rows; l = x.columns; n = y.columns; width = meant x w; done = reached + makes_next budget }) (makes_next budget) (eqb (reached + makes_next budget) (total_of x (meant x w) (words_in a))))
    unfolding total
    demand_3_last budget =
        rw (made_done (steps x.rows x.columns (meant x w) (cell x.columns (words_in a))) reached budget (omega arith))
        (ap (λ (o : ℕ × (List ℕ × (List ℕ × List ℕ))). o.1.0)
        (next_stands x y w a b F.m F.l F.n F.narrow F.bytes_a F.bytes_b facts.left facts.right reached budget job₁ t₁ p₁ (omega arith) demand_3))

-- ---- two jobs in turns

-- p is the product of a job that was opened at some width and given accepted turns, until its budgets reached the list's length
pub record Ended (x y : Size) (a b p : List ℕ) : Type 0 where
  pub width : ℕ
  pub job : List ℕ
  pub table : List ℕ
  pub product : List ℕ
  pub held : Held
  pub opened : ◌≡◌ {A = ℕ × Held} (0, held) (open_face x y width job a b table product)
  pub budgets : List ℕ
  pub last : List ℕ
  pub last_table : List ℕ
  pub given : Given (Accepted a b) held budgets (last, (last_table, p))
  pub reached : total_of x (meant x width) (words_in a) ≤ all_budgets budgets

ended_right : (x y : Size) (a b p : List ℕ) → Ended x y a b p → p ≡ bytes_of (encode x.rows y.columns (schoolbook x.columns (cell x.columns (words_in a)) (cell y.columns (words_in b))))
ended_right x y a b p E =
    demand_3_end x y E.width E.job a b E.table E.product E.held.0 E.held.1.0 E.held.1.1 E.opened E.budgets E.last E.last_table p E.given E.reached

-- their products are equal, whatever the widths and the budgets
pub jobs_agree : (x y : Size) (a b p p' : List ℕ) → Ended x y a b p → Ended x y a b p' → p ≡ p'
jobs_agree x y a b p p' E E' = ended_right x y a b p E ∙ sym (ended_right x y a b p' E')
