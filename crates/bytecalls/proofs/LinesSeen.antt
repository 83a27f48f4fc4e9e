-- A line that was read is that of the numbers that it says. Assumes nothing.
use mathlib.Core.Path.{◌≡◌, refl}
use mathlib.Core.List.{List}
use Prim.Native.Nat.{ℕ}
use lib.ListN.{length}
use Rattle.requests.specs.Exact.{None}
use Rattle.frames.specs.Header.{size_of, read_header_tests, read_header_means}
use Rattle.frames.specs.RowLine.{read_row_tests, read_row_means}
use Rattle.frames.proofs.Outcomes.{read_header_exact, read_row_exact}
use Rattle.frames.proofs.RoundTrips.{header_line, line_words}
use Rattle.bytecalls.specs.Lines.{HeaderRead, RowRead}

pub header_right : (line : List ℕ) (n : ℕ) (o : ℕ × ℕ) → (n, o) ≡ read_header_means line → n ≡ 0 → HeaderRead line o
unfolding read_header_tests size_of
header_right line n o says z =
    let E = read_header_exact line n o says in
    let none : None (read_header_tests line) = E.numbered.done.0 z in
    rw (E.right z) (record { rows = refl; columns = refl; line_is = header_line line none.0 })

pub row_right : (c : ℕ) (line ws : List ℕ) (n : ℕ) (o : List ℕ) → (n, o) ≡ read_row_means c line ws → n ≡ 0 → RowRead c line o
unfolding read_row_tests
row_right c line ws n o says z =
    let E = read_row_exact c line ws n o says in
    let none : None (read_row_tests c line (length ws)) = E.numbered.done.0 z in
    rw (E.right z) (record { words = refl; line_is = line_words _ line none.1.1.0 })
