-- What `nyuzolamba_turn` answers and leaves: the next steps of the list, on the contents as found. Assumes nothing.
use Rattle.std.specs.Prelude.{Bool, ◌||◌, List, [], ◌∷◌, ◌++◌, ℕ, length}
use Rattle.requests.specs.Answers.{Tests, answered}
use Rattle.requests.specs.Sizes.{over}
use Rattle.matrix.specs.declared.job.Job.{Job}
use Rattle.matrix.specs.Job.{unwide}
use Rattle.matrix.specs.Turn.{size_a, size_b, cell_tests, late_tests, turned_of}
use Rattle.matrix.specs.Record.{job_in, record_of}
use Rattle.wordbytes.specs.Bytes.{words_in, bytes_of}
use Rattle.cface.specs.Limit.{above, misfit_bytes}
use Rattle.cface.specs.Record.{unfit_record}

-- the tests of sizes, width and lengths; k, l, m, t and p are how many bytes record, A, B, table and product have
unfoldable pub turn_sizes : Job → ℕ → ℕ → ℕ → ℕ → ℕ → Tests
turn_sizes job k l m t p =
    (unfit_record k, 4)
    ∷ (over (size_a job) || over (size_b job), 1)
    ∷ (above (size_a job) || above (size_b job), 11)
    ∷ (unwide job.width, 3)
    ∷ (misfit_bytes (size_a job) (size_b job) job.width l m t p, 4)
    ∷ []

-- the tests of the words: the cells of A, B, table and product, then the steps done
abbrev pub turn_words : Job → List ℕ → List ℕ → List ℕ → List ℕ → Tests
turn_words job a b t p = cell_tests job a b t p ++ late_tests job a

-- record, table and product as bytes, of what the library's turn leaves
abbrev pub turn_bytes : Job × (ℕ × (Bool × (List ℕ × List ℕ))) → List ℕ × (List ℕ × List ℕ)
turn_bytes o = (bytes_of (record_of o.0 o.1.0 o.1.1.0), (bytes_of o.1.1.1.0, bytes_of o.1.1.1.1))

unfoldable pub turn_face_tests : List ℕ → List ℕ → List ℕ → List ℕ → List ℕ → Tests
turn_face_tests r a b t p = turn_sizes (job_in (words_in r)) (length r) (length a) (length b) (length t) (length p) ++ turn_words (job_in (words_in r)) (words_in a) (words_in b) (words_in t) (words_in p)

unfoldable pub turn_face : List ℕ → List ℕ → List ℕ → List ℕ → List ℕ → ℕ → ℕ × (List ℕ × (List ℕ × List ℕ))
turn_face r a b t p budget = answered (turn_face_tests r a b t p) (r, (t, p)) (turn_bytes (turned_of (job_in (words_in r)) (words_in a) (words_in b) (words_in t) (words_in p) budget))
