-- Two outcomes that satisfy a line's statement coincide, as no word of a line has a place, and the statement refuses exactly when a test holds. Assumes nothing.
use mathlib.Core.Path.{◌≡◌, sym, ◌∙◌}
use mathlib.Core.List.{List}
use Prim.Native.Nat.{ℕ}
use lib.ListN.{length}
use Rattle.std.specs.Prelude.{Result}
use Rattle.buffers.specs.Buffer.{wide}
use Rattle.requests.specs.declared.Size.{Size}
use Rattle.requests.specs.declared.Reason.{Reason}
use Rattle.requests.specs.Answers.{Answer, word}
use Rattle.requests.specs.Exact.{Exact}
use Rattle.requests.proofs.AnswerLaws.{exact}
use Rattle.requests.proofs.WordLaws.{coincide_placeless, placeless_typed, told_same}
use Rattle.frames.specs.Header.{header_of, size_of, no_size, header_told, read_header_tests, read_header_means, write_header_tests, write_header_means}
use Rattle.frames.specs.RowLine.{line_of, words_of, read_row_tests, read_row_means, write_row_tests, write_row_means}

pub read_header_one : (line : List ℕ) (r r' : Result Size Reason) → header_told r ≡ read_header_means line → header_told r' ≡ read_header_means line → r ≡ r'
unfolding read_header_means read_header_tests
read_header_one line r r' p q =
    let e = p ∙ sym q in
    told_same no_size r r' (placeless_typed (read_header_tests line) _ _ r _ tt p) (placeless_typed (read_header_tests line) _ _ r' _ tt q)
    (λ t. ((e t).0, record { rows = (e t).1.0; columns = (e t).1.1 }))

pub write_header_one : (s : Size) (line : List ℕ) (r r' : Answer) (o o' : List ℕ) → (word r, o) ≡ write_header_means s line → (word r', o') ≡ write_header_means s line → (r ≡ r') × (o ≡ o')
unfolding write_header_means write_header_tests
write_header_one s line r r' o o' p q = coincide_placeless (write_header_tests s (length line)) _ _ r r' o o' tt p q

pub read_row_one : (c : ℕ) (line ws : List ℕ) (r r' : Answer) (o o' : List ℕ) → (word r, o) ≡ read_row_means c line ws → (word r', o') ≡ read_row_means c line ws → (r ≡ r') × (o ≡ o')
unfolding read_row_means read_row_tests
read_row_one c line ws r r' o o' p q = coincide_placeless (read_row_tests c line (length ws)) _ _ r r' o o' tt p q

pub write_row_one : (c : ℕ) (ws line : List ℕ) (r r' : Answer) (o o' : List ℕ) → (word r, o) ≡ write_row_means c ws line → (word r', o') ≡ write_row_means c ws line → (r ≡ r') × (o ≡ o')
unfolding write_row_means write_row_tests
write_row_one c ws line r r' o o' p q = coincide_placeless (write_row_tests c (length ws) (length line)) _ _ r r' o o' tt p q

-- ---- a number is answered exactly when its test is the first that holds, and a refusal leaves what was there

pub write_header_exact : (s : Size) (line : List ℕ) (n : ℕ) (o : List ℕ) → (n, o) ≡ write_header_means s line → Exact (write_header_tests s (length line)) line (header_of s) n o
unfolding write_header_means write_header_tests
write_header_exact s line n o p = exact (write_header_tests s (length line)) line (header_of s) n o tt p

pub read_header_exact : (line : List ℕ) (n : ℕ) (o : ℕ × ℕ) → (n, o) ≡ read_header_means line → Exact (read_header_tests line) (0, 0) ((size_of line).rows, (size_of line).columns) n o
unfolding read_header_means read_header_tests
read_header_exact line n o p = exact (read_header_tests line) (0, 0) ((size_of line).rows, (size_of line).columns) n o tt p

pub read_row_exact : (c : ℕ) (line ws : List ℕ) (n : ℕ) (o : List ℕ) → (n, o) ≡ read_row_means c line ws → Exact (read_row_tests c line (length ws)) ws (words_of (wide c) line) n o
unfolding read_row_means read_row_tests
read_row_exact c line ws n o p = exact (read_row_tests c line (length ws)) ws (words_of (wide c) line) n o tt p

pub write_row_exact : (c : ℕ) (ws line : List ℕ) (n : ℕ) (o : List ℕ) → (n, o) ≡ write_row_means c ws line → Exact (write_row_tests c (length ws) (length line)) line (line_of (wide c) ws) n o
unfolding write_row_means write_row_tests
write_row_exact c ws line n o p = exact (write_row_tests c (length ws) (length line)) line (line_of (wide c) ws) n o tt p
