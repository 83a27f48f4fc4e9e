-- What multiply's statement says of a buffer, with room for the answer and without. Assumes nothing.
use mathlib.Core.Path.{◌≡◌, refl, ap, ◌∙◌}
use mathlib.Core.List.{List}
use Prim.Native.Nat.{ℕ, ◌≤◌, ◌<◌}
use lib.ListN.{length, take, drop}
use lib.Seq.{drop_at}
use borrow.Author.Tests.{lt-ltb, le-ltb}
use Rattle.texts.specs.Multiply.{multiply_text, laid, placed, multiply_means}
use Rattle.texts.proofs.LaidLaws.{laid_front}
use Rattle.texts.proofs.Printed.{multiply_refuses, multiply_prints}
use Rattle.bytecalls.specs.Text.{Prints, Told}

prints : (text printed : List ℕ) → printed ≡ multiply_text text → Prints text printed
prints text printed e = rw e (record { done = multiply_prints text; refused = multiply_refuses text })

module _ (text out : List ℕ) (n : ℕ) (o : List ℕ) (says : ◌≡◌ {A = ℕ × List ℕ} (n, o) (multiply_means text out)) where
  with_room : length (multiply_text text) ≤ length out → ◌≡◌ {A = ℕ × List ℕ} (n, o) (length (multiply_text text), laid (multiply_text text) out)
  unfolding multiply_means placed
  with_room h = rw (le-ltb (length out) (length (multiply_text text)) h) at says

  without : length out < length (multiply_text text) → ◌≡◌ {A = ℕ × List ℕ} (n, o) (0, out)
  unfolding multiply_means placed
  without h = rw (lt-ltb (length out) (length (multiply_text text)) h) at says

  after : drop (length (multiply_text text)) (laid (multiply_text text) out) ≡ drop (length (multiply_text text)) out
  unfolding laid
  after = drop_at (multiply_text text) (drop (length (multiply_text text)) out) (length (multiply_text text)) refl

  pub told : Told text out n o
  told = record {
    prints = λ h. prints text (take n o) (ap (λ (v : ℕ × List ℕ). take v.0 v.1) (with_room h) ∙ laid_front (multiply_text text) out (length (multiply_text text)) refl);
    long = λ h. ap (λ (v : ℕ × List ℕ). v.0) (with_room h);
    stays = λ h. rw (ap (λ (v : ℕ × List ℕ). v.0) (with_room h), ap (λ (v : ℕ × List ℕ). v.1) (with_room h)) after;
    no_room = λ h. (ap (λ (v : ℕ × List ℕ). v.0) (without h), ap (λ (v : ℕ × List ℕ). v.1) (without h));
  }
