-- What a list of tests answers. Assumes nothing.
use mathlib.Core.Path.{◌≡◌, refl, sym, ap, subst, ◌∙◌}
use mathlib.Core.Bool.{Bool, true, false, cond, ◌&&◌}
use mathlib.Core.List.{[], ◌∷◌, ◌++◌}
use Prim.Native.Nat.{ℕ, zero, suc}
use native.Mathlib.Omega.{arith}
use lib.Dec.{T, ltb, ltb→lt}
use mir.Val.{bool_byte}
use Rattle.requests.specs.Answers.{Tests, first, left, answered}
use Rattle.requests.specs.Exact.{None, Gives, Numbered, Seen, Exact}

-- ---- the code's way through the tests

pub here : (t : Bool) (n : ℕ) (ts : Tests) → t ≡ true → first ((t, n) ∷ ts) ≡ n
unfolding first
here t n ts e = rw e

pub later : (t : Bool) (n : ℕ) (ts : Tests) → t ≡ false → first ((t, n) ∷ ts) ≡ first ts
unfolding first
later t n ts e = rw e

-- each number is above 0
abbrev pub positive : Tests → Bool
positive [] = true
positive ((t, n) ∷ ts) = ltb 0 n && positive ts

pub positive_append : (ts us : Tests) → T (positive ts) → T (positive us) → T (positive (ts ++ us))
positive_append [] us p q = q
positive_append ((t, n) ∷ ts) us p q = go (ltb 0 n) (positive ts) p (positive_append ts us)
  where
    go : (a b : Bool) → T (a && b) → (T b → T (positive us) → T (positive (ts ++ us))) → T (a && positive (ts ++ us))
    go true b h more = more h q
    go false b h more = absurd h

pub both : (p q : Bool) → T (p && q) → T p × T q
both true q h = (tt, h)
both false q h = absurd h

pub append_given : (ts us : Tests) → (first ts ≡ 0 → ⊥) → first (ts ++ us) ≡ first ts
unfolding first
append_given [] us ne = absurd (ne refl)
append_given ((true, m) ∷ ts) us ne = refl
append_given ((false, m) ∷ ts) us ne = append_given ts us ne

pub append_none : (ts us : Tests) → T (positive ts) → first ts ≡ 0 → first (ts ++ us) ≡ first us
unfolding first
append_none [] us p e = refl
append_none ((true, m) ∷ ts) us p e = absurd (omega (arith, ltb→lt 0 m (both (ltb 0 m) (positive ts) p).0))
append_none ((false, m) ∷ ts) us p e = append_none ts us (both (ltb 0 m) (positive ts) p).1 e

pub append_same : (ts us vs : Tests) → first us ≡ first vs → first (ts ++ us) ≡ first (ts ++ vs)
unfolding first
append_same [] us vs e = e
append_same ((true, n) ∷ ts) us vs e = refl
append_same ((false, n) ∷ ts) us vs e = append_same ts us vs e

-- where none of all holds, none of the first ones does
pub append_front : (ts us : Tests) → T (positive ts) → first (ts ++ us) ≡ 0 → first ts ≡ 0
unfolding first
append_front [] us p e = refl
append_front ((true, m) ∷ ts) us p e = e
append_front ((false, m) ∷ ts) us p e = append_front ts us (both (ltb 0 m) (positive ts) p).1 e

module _ {S : Type 0} (ts : Tests) (old new : S) where
  pub refused : (n : ℕ) → (n ≡ 0 → ⊥) → first ts ≡ n → (n, old) ≡ answered ts old new
  unfolding answered left
  refused zero ne e = absurd (ne refl)
  refused (suc n) ne e = rw e

  pub finished : (s : S) → first ts ≡ 0 → s ≡ new → (0, s) ≡ answered ts old new
  unfolding answered left
  finished s e f = rw (e, f)

-- ---- what an answer says

past : (before : Tests) (test : Bool) (n : ℕ) (after : Tests) → None before → test ≡ true → first (before ++ ((test, n) ∷ after)) ≡ n
past [] test n after h e = here test n after e
past ((t, m) ∷ before) test n after h e = later t m (before ++ ((test, n) ∷ after)) h.0 ∙ past before test n after h.1 e

-- a number is given exactly when its test holds and none before it does
pub gives : (ts : Tests) (n : ℕ) → Gives n ts → first ts ≡ n
gives ts n g = ap first g.split ∙ past g.before g.test n g.after g.none g.holds

pub given : (ts : Tests) (n : ℕ) → (n ≡ 0 → ⊥) → first ts ≡ n → Gives n ts
unfolding first
given [] n ne e = absurd (ne (sym e))
given ((true, m) ∷ ts) n ne e = record { before = []; test = true; after = ts; split = ap (λ (k : ℕ). (true, k) ∷ ts) e; none = tt; holds = refl }
given ((false, m) ∷ ts) n ne e =
    let g = given ts n ne e in
    record { before = (false, m) ∷ g.before; test = g.test; after = g.after; split = ap (λ (l : Tests). (false, m) ∷ l) g.split; none = (refl, g.none); holds = g.holds }

-- done is given exactly when no test holds
pub none_first : (ts : Tests) → None ts → first ts ≡ 0
unfolding first
none_first [] h = refl
none_first ((t, m) ∷ ts) h = later t m ts h.0 ∙ none_first ts h.1

pub first_none : (ts : Tests) → T (positive ts) → first ts ≡ 0 → None ts
unfolding first
first_none [] p e = tt
first_none ((true, m) ∷ ts) p e = absurd (omega (arith, ltb→lt 0 m (both (ltb 0 m) (positive ts) p).0))
first_none ((false, m) ∷ ts) p e = (refl, first_none ts (both (ltb 0 m) (positive ts) p).1 e)

answered_first : {S : Type 0} (ts : Tests) (old new : S) → (answered ts old new).0 ≡ first ts
unfolding answered
answered_first ts old new = refl

-- a refusal leaves what was there, and done leaves what is new
module _ {S : Type 0} (ts : Tests) (old new : S) where
  pub refusal_keeps : (n : ℕ) (s : S) → (n ≡ 0 → ⊥) → (n, s) ≡ answered ts old new → s ≡ old
  unfolding answered left
  refusal_keeps n s ne e = go (first ts) (ap (λ (o : ℕ × S). o.0) e) (ap (λ (o : ℕ × S). o.1) e)
    where
      go : (m : ℕ) → n ≡ m → s ≡ left m old new → s ≡ old
      go zero p q = absurd (ne p)
      go (suc m) p q = q

  pub done_makes : (s : S) → (0, s) ≡ answered ts old new → (first ts ≡ 0) × (s ≡ new)
  unfolding answered left
  done_makes s e =
      let z : first ts ≡ 0 = sym (ap (λ (o : ℕ × S). o.0) e) in
      (z, ap (λ (o : ℕ × S). o.1) e ∙ ap (λ (m : ℕ). left m old new) z)

-- all that a statement says of a request's number, and of what it leaves
pub numbered : (ts : Tests) (n : ℕ) → T (positive ts) → n ≡ first ts → Numbered ts n
numbered ts n pos is = record {
  refused = λ k ne. (λ e. given ts k ne (sym is ∙ e), λ g. is ∙ gives ts k g);
  done = (λ e. first_none ts pos (sym is ∙ e), λ h. is ∙ none_first ts h);
}

pub exact : {S : Type 0} (ts : Tests) (old new : S) (n : ℕ) (s : S) → T (positive ts) → (n, s) ≡ answered ts old new → Exact ts old new n s
exact {S = S} ts old new n s pos says = record {
  numbered = numbered ts n pos (ap (λ (v : ℕ × S). v.0) says ∙ answered_first ts old new);
  keeps = λ ne. refusal_keeps ts old new n s ne says;
  right = λ e. (done_makes ts old new s (subst (λ (m : ℕ). ◌≡◌ {A = ℕ × S} (m, s) (answered ts old new)) e says)).1;
}

-- what is right of the one thing that is left is seen
pub seen : {S : Type 0} {ts : Tests} {old new : S} {Right : S → Type 0} {n : ℕ} {s : S} → Exact ts old new n s → (n ≡ 0 → Right s) → Seen ts old Right n s
seen E right = record { numbered = E.numbered; keeps = E.keeps; right = right }

-- .. and so is what is made of it
pub mapped : {S U : Type 0} {ts : Tests} {old new : S} {n : ℕ} {s : S} (f : S → U) → Exact ts old new n s → Exact ts (f old) (f new) n (f s)
mapped f E = record { numbered = E.numbered; keeps = λ ne. ap f (E.keeps ne); right = λ z. ap f (E.right z) }

-- a refused request leaves what was there, whatever is looked at of it
pub stays : {S U : Type 0} {ts : Tests} {old new : S} {Right : U → Type 0} {n : ℕ} {s : S} (f : S → U) → Exact ts old new n s → (n ≡ 0 → ⊥) → Seen ts (f old) Right n (f s)
stays f E ne = record { numbered = E.numbered; keeps = λ _. ap f (E.keeps ne); right = λ z. absurd (ne z) }

-- a request that is done, and what was done after it
pub goes_on : {S : Type 0} {ts : Tests} {old s : S} {Right : S → Type 0} {n : ℕ} → Numbered ts n → n ≡ 0 → Right s → Seen ts old Right 0 s
goes_on {ts = ts} N ok right = record { numbered = subst (λ (n : ℕ). Numbered ts n) ok N; keeps = λ ne. absurd (ne refl); right = λ _. right }

-- yes or no as a number
pub flag : (t : Bool) → bool_byte t ≡ cond t 1 0
flag true = refl
flag false = refl
