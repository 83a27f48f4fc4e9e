-- What `nyuzolamba_open` answers and leaves: a record, and zero in table and product. Assumes nothing.
use Rattle.std.specs.Prelude.{false, ◌||◌, List, [], ◌∷◌, ◌++◌, ℕ, ltb, length}
use Rattle.requests.specs.declared.Size.{Size}
use Rattle.requests.specs.declared.Buffer.TheVariants.{First, Second}
use Rattle.requests.specs.Answers.{Tests, answered}
use Rattle.requests.specs.Sizes.{over}
use Rattle.requests.specs.Faults.{pair_faults}
use Rattle.matrix.specs.declared.job.Job.{Job}
use Rattle.matrix.specs.Job.{meant, unmatched}
use Rattle.matrix.specs.Opening.{opened_of}
use Rattle.matrix.specs.Record.{record_of}
use Rattle.wordbytes.specs.Bytes.{words_in, bytes_of}
use Rattle.cface.specs.Limit.{above, misfit_bytes}
use Rattle.cface.specs.Record.{unfit_record}

-- the tests of sizes, width and lengths; k, l, m, t and p are how many bytes record, A, B, table and product have
unfoldable pub open_sizes : Size → Size → ℕ → ℕ → ℕ → ℕ → ℕ → ℕ → Tests
open_sizes x y width k l m t p =
    (unfit_record k, 4)
    ∷ (over x || over y, 1)
    ∷ (above x || above y, 11)
    ∷ (unmatched x y, 2)
    ∷ (ltb 8 width, 3)
    ∷ (misfit_bytes x y (meant x width) l m t p, 4)
    ∷ []

unfoldable pub open_face_tests : Size → Size → ℕ → ℕ → List ℕ → List ℕ → ℕ → ℕ → Tests
open_face_tests x y width k a b t p = open_sizes x y width k (length a) (length b) t p ++ pair_faults First Second x y (words_in a) (words_in b)

-- record, table and product as bytes, of what the library's opening leaves
abbrev pub open_bytes : Job × (List ℕ × List ℕ) → List ℕ × (List ℕ × List ℕ)
open_bytes o = (bytes_of (record_of o.0 0 false), (bytes_of o.1.0, bytes_of o.1.1))

unfoldable pub open_face : Size → Size → ℕ → List ℕ → List ℕ → List ℕ → List ℕ → List ℕ → ℕ × (List ℕ × (List ℕ × List ℕ))
open_face x y width r a b t p = answered (open_face_tests x y width (length r) a b (length t) (length p)) (r, (t, p)) (open_bytes (opened_of x y width))
