-- Two outcomes that satisfy a request's statement coincide: one lemma, at each request. Assumes nothing.
use mathlib.Core.Path.{◌≡◌, refl, sym, ap, ◌∙◌}
use mathlib.Core.Bool.{Bool}
use mathlib.Core.List.{List}
use Prim.Native.Nat.{ℕ}
use Rattle.std.specs.Prelude.{Result}
use Rattle.requests.specs.declared.Size.{Size}
use Rattle.requests.specs.declared.Reason.{Reason}
use Rattle.requests.specs.Answers.{Answer, word, told, Typed}
use Rattle.matrix.specs.declared.turn.Turned.{Turned}
use Rattle.matrix.specs.declared.tally.Tallied.{Tallied}
use Rattle.matrix.specs.Check.{check_means}
use Rattle.matrix.specs.Pack.{pack_means}
use Rattle.matrix.specs.Unpack.{unpack_means}
use Rattle.matrix.specs.Combination.{combination_means}
use Rattle.matrix.specs.Negation.{negation_means}
use Rattle.matrix.specs.Scaling.{scaling_means}
use Rattle.matrix.specs.Transpose.{transpose_means}
use Rattle.matrix.specs.Tally.{no_tally, tally_told, tally_means}
use Rattle.matrix.specs.declared.job.Job.{Job}
use Rattle.matrix.specs.Quote.{quote_tests, quote_means}
use Rattle.matrix.specs.Width.{width_means}
use Rattle.matrix.specs.Total.{total_means}
use Rattle.matrix.specs.Opening.{no_job, opened, opening_means}
use Rattle.matrix.specs.Turn.{no_turn, turned, turn_means}
use Rattle.matrix.specs.Product.{product_means}
use Rattle.requests.proofs.WordLaws.{word_same, told_same, coincide, placeless_typed}

pub check_one : (s : Size) (a : List ℕ) (r r' : Answer) → Typed r → Typed r' → word r ≡ check_means s a → word r' ≡ check_means s a → r ≡ r'
check_one s a r r' h k p q = word_same r r' h k (p ∙ sym q)

pub combination_one : (x y : Size) (d : ℕ) (a b out : List ℕ) (r r' : Answer) (o o' : List ℕ) → Typed r → Typed r' → (word r, o) ≡ combination_means x y d a b out
    → (word r', o') ≡ combination_means x y d a b out → (r ≡ r') × (o ≡ o')
combination_one x y d a b out r r' o o' h k p q = coincide (combination_means x y d a b out) r r' o o' h k p q

pub negation_one : (s : Size) (a out : List ℕ) (r r' : Answer) (o o' : List ℕ) → Typed r → Typed r' → (word r, o) ≡ negation_means s a out → (word r', o') ≡ negation_means s a out → (r ≡ r') × (o ≡ o')
negation_one s a out r r' o o' h k p q = coincide (negation_means s a out) r r' o o' h k p q

pub scaling_one : (s : Size) (d : ℕ) (a out : List ℕ) (r r' : Answer) (o o' : List ℕ) → Typed r → Typed r' → (word r, o) ≡ scaling_means s d a out → (word r', o') ≡ scaling_means s d a out → (r ≡ r') × (o ≡ o')
scaling_one s d a out r r' o o' h k p q = coincide (scaling_means s d a out) r r' o o' h k p q

pub transpose_one : (s : Size) (a out : List ℕ) (r r' : Answer) (o o' : List ℕ) → Typed r → Typed r' → (word r, o) ≡ transpose_means s a out → (word r', o') ≡ transpose_means s a out → (r ≡ r') × (o ≡ o')
transpose_one s a out r r' o o' h k p q = coincide (transpose_means s a out) r r' o o' h k p q

pub pack_one : (s : Size) (cells out : List ℕ) (r r' : Answer) (o o' : List ℕ) → Typed r → Typed r' → (word r, o) ≡ pack_means s cells out → (word r', o') ≡ pack_means s cells out → (r ≡ r') × (o ≡ o')
pack_one s cells out r r' o o' h k p q = coincide (pack_means s cells out) r r' o o' h k p q

pub unpack_one : (s : Size) (a out : List ℕ) (r r' : Answer) (o o' : List ℕ) → Typed r → Typed r' → (word r, o) ≡ unpack_means s a out → (word r', o') ≡ unpack_means s a out → (r ≡ r') × (o ≡ o')
unpack_one s a out r r' o o' h k p q = coincide (unpack_means s a out) r r' o o' h k p q

-- an answer that holds a value: the value too
pub tally_one : (c : ℕ) (a : List ℕ) (r r' : Result Tallied Reason) → Typed r → Typed r' → tally_told r ≡ tally_means c a → tally_told r' ≡ tally_means c a → r ≡ r'
tally_one c a r r' h k p q =
    told_same no_tally r r' h k (ap (λ (v : ℕ × (List ℕ × Bool)). (v.0, record { counts = v.1.0; balanced = v.1.1 })) (p ∙ sym q))

-- ---- jobs

-- a quote and a width have no cells to look at, so that no word has a place
pub quote_one : (x : Size) (w : ℕ) (r r' : Result ℕ Reason) → told 0 r ≡ quote_means x w → told 0 r' ≡ quote_means x w → r ≡ r'
unfolding quote_means quote_tests
quote_one x w r r' p q =
    told_same 0 r r' (placeless_typed (quote_tests x w) _ _ r _ tt p) (placeless_typed (quote_tests x w) _ _ r' _ tt q) (p ∙ sym q)

pub width_one : (x : Size) (w : ℕ) (r r' : Result ℕ Reason) → told 0 r ≡ width_means x w → told 0 r' ≡ width_means x w → r ≡ r'
unfolding width_means quote_tests
width_one x w r r' p q =
    told_same 0 r r' (placeless_typed (quote_tests x w) _ _ r _ tt p) (placeless_typed (quote_tests x w) _ _ r' _ tt q) (p ∙ sym q)

pub total_one : (x : Size) (w : ℕ) (a : List ℕ) (r r' : Result ℕ Reason) → Typed r → Typed r' → told 0 r ≡ total_means x w a → told 0 r' ≡ total_means x w a → r ≡ r'
total_one x w a r r' h k p q = told_same 0 r r' h k (p ∙ sym q)

abbrev OpeningLeft : Type 0
OpeningLeft = ℕ × (Job × (List ℕ × List ℕ))

-- table and product are left as they are handed on
pub opened_left : (r : Result Job Reason) (t p : List ℕ) → (opened r t p).1.1 ≡ (t, p)
opened_left r t p = refl

pub opening_one : (x y : Size) (w : ℕ) (a b t p : List ℕ) (r r' : Result Job Reason) (t₁ p₁ t₁' p₁' : List ℕ) → Typed r → Typed r' → opened r t₁ p₁ ≡ opening_means x y w a b t p
    → opened r' t₁' p₁' ≡ opening_means x y w a b t p → (r ≡ r') × (t₁ ≡ t₁') × (p₁ ≡ p₁')
opening_one x y w a b t p r r' t₁ p₁ t₁' p₁' h k u v =
    let e = u ∙ sym v in
    (told_same no_job r r' h k (ap (λ (o : OpeningLeft). (o.0, o.1.0)) e), ap (λ (o : OpeningLeft). o.1.1.0) e, ap (λ (o : OpeningLeft). o.1.1.1) e)

abbrev TurnLeft : Type 0
TurnLeft = ℕ × (Job × (ℕ × (Bool × (List ℕ × List ℕ))))

abbrev turned_in : TurnLeft → ℕ × Turned
turned_in v = (v.0, record { job = v.1.0; made = v.1.1.0; finished = v.1.1.1.0 })

pub turned_left : (r : Result Turned Reason) (t p : List ℕ) → (turned r t p).1.1.1.1 ≡ (t, p)
turned_left r t p = refl

pub turn_one : (job : Job) (a b t p : List ℕ) (budget : ℕ) (r r' : Result Turned Reason) (t₁ p₁ t₁' p₁' : List ℕ) → Typed r → Typed r' → turned r t₁ p₁ ≡ turn_means job a b t p budget
    → turned r' t₁' p₁' ≡ turn_means job a b t p budget → (r ≡ r') × (t₁ ≡ t₁') × (p₁ ≡ p₁')
turn_one job a b t p budget r r' t₁ p₁ t₁' p₁' h k u v =
    let e = u ∙ sym v in
    (told_same no_turn r r' h k (ap turned_in e), ap (λ (o : TurnLeft). o.1.1.1.1.0) e, ap (λ (o : TurnLeft). o.1.1.1.1.1) e)

pub product_one : (x y : Size) (w : ℕ) (a b t p : List ℕ) (r r' : Answer) (o o' : List ℕ × List ℕ) → Typed r → Typed r' → (word r, o) ≡ product_means x y w a b t p
    → (word r', o') ≡ product_means x y w a b t p → (r ≡ r') × (o ≡ o')
product_one x y w a b t p r r' o o' h k u v = coincide (product_means x y w a b t p) r r' o o' h k u v
