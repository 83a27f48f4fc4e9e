-- What reading a matrix out of a text leaves. Assumes nothing.
use mathlib.Core.Path.{◌≡◌, refl, sym, ap, ap₂, ◌∙◌}
use mathlib.Core.List.{List, ◌++◌}
use Prim.Native.Nat.{ℕ, ◌+◌, ◌*◌}
use lib.ListN.{length, take, drop}
use mathlib.Core.Bool.{true, false}
use Rattle.std.specs.Prelude.{Result, Ok, Err, MatchResult}
use Rattle.requests.specs.declared.Reason.{Reason}
use Rattle.requests.specs.declared.Reason.TheVariants.{AboveLimit}
use Rattle.frames.specs.Header.{read_header_means}
use Rattle.texts.specs.declared.limit.Limited.{Limited}
use Rattle.buffers.specs.Buffer.{words}
use Rattle.requests.specs.declared.Size.{Size}
use Rattle.frames.specs.RowLine.{line_long}
use Rattle.texts.specs.MatrixText.{words_read, words_in, above, size_means}
use Rattle.texts.specs.Multiply.{laid}
use Rattle.texts.specs.Found.{size_told, Found}
use Rattle.texts.proofs.TextLaws.{size_above, size_done, head_size, head_few, head_narrow, rest_is, words_are, words_long}

-- what a header that was read is within the limit, or is not
pub size_limited : (text : List ℕ) (s : Size) (a : Result Limited Reason) → ◌≡◌ {A = ℕ × (ℕ × ℕ)} (0, (s.rows, s.columns)) (read_header_means (take 9 text))
    → MatchResult a (λ within. (above s ≡ false) × (within.size ≡ s)) (λ reason. (above s ≡ true) × (reason ≡ AboveLimit)) → size_told a ≡ size_means text
size_limited text s (Ok within) says h = rw h.1 (size_done text 0 s.rows s.columns says refl (sym h.0))
size_limited text s (Err reason) says h = rw h.1 (size_above text 0 s.rows s.columns says refl (sym h.0))

pub found : (text : List ℕ) (s : Size) (n line : ℕ) (old rows rest : List ℕ) → ◌≡◌ {A = ℕ × (ℕ × ℕ)} (0, (s.rows, s.columns)) (size_means text) → n ≡ words s.rows s.columns → line ≡ s.rows * line_long s.columns → rows ≡ words_read s.rows s.columns (drop 9 text)
    → rest ≡ drop (9 + line) text → Found text s rest old (rows ++ drop n old)
unfolding words laid
found text s n line old rows rest says e f g h =
    let size = head_size text 0 s.rows s.columns says refl in
    let v : rows ≡ words_in text = g ∙ sym (words_are text 0 s.rows s.columns says refl) in
    let k : n ≡ length (words_in text) = e ∙ sym (words_long s.rows s.columns (drop 9 text)) ∙ ap length (sym g ∙ v) in
    record {
      size_is = λ t. record { rows = (size t).0; columns = (size t).1 };
      few = head_few text 0 s.rows s.columns says refl;
      narrow = head_narrow text 0 s.rows s.columns says refl;
      rest_is = h ∙ ap (λ (k : ℕ). drop (9 + k) text) f ∙ sym (rest_is text 0 s.rows s.columns says refl);
      words_are = ap₂ (λ (s t : List ℕ). s ++ t) v (ap (λ (d : ℕ). drop d old) k);
    }
