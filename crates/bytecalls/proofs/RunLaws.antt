-- An opening, and then a turn for each of some budgets: where the job stands after the first i of them. Assumes nothing.
use mathlib.Core.Path.{◌≡◌, subst, ◌∙◌}
use mathlib.Core.List.{List}
use Prim.Native.Nat.{ℕ, ◌+◌, ◌≤◌, ◌<◌, min}
use native.Mathlib.Omega.{arith}
use lib.ListN.{length, get_or, take}
use lib.Seq.{take_all}
use Rattle.requests.specs.declared.Size.{Size}
use Rattle.requests.specs.Exact.{Seen}
use Rattle.requests.proofs.AnswerLaws.{goes_on}
use Rattle.steps.specs.Matrix.{schoolbook}
use Rattle.steps.specs.Turn.{all_budgets}
use Rattle.steps.proofs.Turns.{led, led_none, led_more}
use Rattle.matrix.specs.Job.{meant, total_of}
use Rattle.wordbytes.specs.Bytes.{words_in}
use Rattle.wordbytes.proofs.ShowsBytesLaws.{encode_shows_bytes}
use Rattle.cface.specs.Open.{open_face_tests, open_face}
use Rattle.cface.specs.Turn.{turn_face}
use Rattle.cface.specs.Stands.{Held, Stands}
use Rattle.cface.proofs.Refusals.{open_exact}
use Rattle.cface.proofs.Turns.{F, facts, started, turn_goes_on, seen_standing, end_stands}
use Rattle.bytecalls.specs.Run.{Run}

-- after the first i budgets
abbrev pub stood : Size → ℕ → List ℕ → List ℕ → ℕ → ℕ
stood x w a budgets i = led budgets (total_of x (meant x w) (words_in a)) i

abbrev pub StoodAt : Size → Size → ℕ → List ℕ → List ℕ → List ℕ → ℕ → Held → Type 0
StoodAt x y w a b budgets i s = Stands x y (meant x w) a b (stood x w a budgets i) s.0 s.1.0 s.1.1

module _ (x y : Size) (w : ℕ) (job a b t p budgets : List ℕ) (f : ℕ) (s₀ : Held) (opened : (f, s₀) ≡ open_face x y w job a b t p) (ok : f ≡ 0) where
  done : ◌≡◌ {A = ℕ × Held} (0, s₀) (open_face x y w job a b t p)
  done = rw ok at opened

  pub run_start : StoodAt x y w a b budgets 0 s₀
  run_start =
      rw (← led_none budgets (total_of x (meant x w) (words_in a))) (started x y w job a b t p s₀.0 s₀.1.0 s₀.1.1 done)

  pub run_next : (i n : ℕ) (s s₁ : Held) → i < length budgets → StoodAt x y w a b budgets i s → (n, s₁) ≡ turn_face s.0 a b s.1.0 s.1.1 (get_or budgets i 0)
      → (n ≡ 0) × StoodAt x y w a b budgets (i + 1) s₁
  run_next i n s s₁ h S says =
      let T = turn_goes_on x y w job a b t p s₀.0 s₀.1.0 s₀.1.1 done (stood x w a budgets i) (get_or budgets i 0) n s s₁ (omega arith) S says in
      (T.0, subst (λ (d : ℕ). Stands x y (meant x w) a b d s₁.0 s₁.1.0 s₁.1.1) (led_more budgets (total_of x (meant x w) (words_in a)) i h) T.1)

  run_end : (i : ℕ) (s : Held) → length budgets ≤ i → StoodAt x y w a b budgets i s → Run x y w a b budgets s
  unfolding schoolbook
  run_end i s h S =
      let all : take i budgets ≡ budgets = take_all i budgets h in
      let whole : Stands x y (meant x w) a b (min (all_budgets budgets) (total_of x (meant x w) (words_in a))) s.0 s.1.0 s.1.1 = rw all at S in
      let fit = F x y w job a b t p s₀.0 s₀.1.0 s₀.1.1 done in
      let legal = facts x y w job a b t p s₀.0 s₀.1.0 s₀.1.1 done in
      record {
        reached = seen_standing x y w job a b t p s₀.0 s₀.1.0 s₀.1.1 done _ s.0 s.1.0 s.1.1 (omega arith) whole;
        end = λ far. rw (whole.product_is ∙ end_stands x y w a b fit.m fit.l fit.n fit.narrow fit.bytes_a fit.bytes_b legal.left legal.right _ (omega arith)) (encode_shows_bytes x.rows y.columns _ (λ i j _ _. omega arith));
      }

  -- all of it is done, as the opening was
  pub run_seen : (i : ℕ) (s : Held) → length budgets ≤ i → StoodAt x y w a b budgets i s
      → Seen {S = Held} (open_face_tests x y w (length job) a b (length t) (length p)) (job, (t, p)) (Run x y w a b budgets) 0 s
  run_seen i s h S = goes_on (open_exact x y w job a b t p f s₀ opened).numbered ok (run_end i s h S)
