-- Two outcomes that satisfy a call's statement coincide: one lemma, at each call. Assumes nothing.
use mathlib.Core.Path.{◌≡◌, sym, ◌∙◌}
use mathlib.Core.List.{List}
use Prim.Native.Nat.{ℕ}
use Rattle.requests.specs.declared.Size.{Size}
use Rattle.requests.proofs.WordLaws.{words_coincide}
use Rattle.cface.specs.Check.{check_face}
use Rattle.cface.specs.Combination.{combination_face}
use Rattle.cface.specs.Negation.{negation_face}
use Rattle.cface.specs.Width.{width_face}
use Rattle.cface.specs.Quote.{quote_face}
use Rattle.cface.specs.Product.{product_face}
use Rattle.cface.specs.Open.{open_face}
use Rattle.cface.specs.Turn.{turn_face}

pub check_one : (s : Size) (a : List ℕ) (r r' : ℕ) → r ≡ check_face s a → r' ≡ check_face s a → r ≡ r'
check_one s a r r' p q = p ∙ sym q

pub combination_one : (x y : Size) (d : ℕ) (a b out : List ℕ) (r r' : ℕ) (o o' : List ℕ) → (r, o) ≡ combination_face x y d a b out → (r', o') ≡ combination_face x y d a b out → (r ≡ r') × (o ≡ o')
combination_one x y d a b out r r' o o' p q = words_coincide (combination_face x y d a b out) r r' o o' p q

pub negation_one : (s : Size) (a out : List ℕ) (r r' : ℕ) (o o' : List ℕ) → (r, o) ≡ negation_face s a out → (r', o') ≡ negation_face s a out → (r ≡ r') × (o ≡ o')
negation_one s a out r r' o o' p q = words_coincide (negation_face s a out) r r' o o' p q

pub product_one : (x y : Size) (a b out : List ℕ) (r r' : ℕ) (o o' : List ℕ) → (r, o) ≡ product_face x y a b out → (r', o') ≡ product_face x y a b out → (r ≡ r') × (o ≡ o')
product_one x y a b out r r' o o' p q = words_coincide (product_face x y a b out) r r' o o' p q

pub width_one : (x : Size) (w : ℕ) (out : List ℕ) (r r' : ℕ) (o o' : List ℕ) → (r, o) ≡ width_face x w out → (r', o') ≡ width_face x w out → (r ≡ r') × (o ≡ o')
width_one x w out r r' o o' p q = words_coincide (width_face x w out) r r' o o' p q

pub quote_one : (x : Size) (w : ℕ) (out : List ℕ) (r r' : ℕ) (o o' : List ℕ) → (r, o) ≡ quote_face x w out → (r', o') ≡ quote_face x w out → (r ≡ r') × (o ≡ o')
quote_one x w out r r' o o' p q = words_coincide (quote_face x w out) r r' o o' p q

-- ---- jobs: record, table and product

pub open_one : (x y : Size) (w : ℕ) (job a b t p : List ℕ) (r r' : ℕ) (o o' : List ℕ × (List ℕ × List ℕ)) → (r, o) ≡ open_face x y w job a b t p → (r', o') ≡ open_face x y w job a b t p → (r ≡ r') × (o ≡ o')
open_one x y w job a b t p r r' o o' u v = words_coincide (open_face x y w job a b t p) r r' o o' u v

pub turn_one : (job a b t p : List ℕ) (budget : ℕ) (r r' : ℕ) (o o' : List ℕ × (List ℕ × List ℕ)) → (r, o) ≡ turn_face job a b t p budget → (r', o') ≡ turn_face job a b t p budget → (r ≡ r') × (o ≡ o')
turn_one job a b t p budget r r' o o' u v = words_coincide (turn_face job a b t p budget) r r' o o' u v
