-- What `nyuzolamba_product` answers and leaves: the schoolbook product. Its table is its own, at the default width. Assumes nothing.
use Rattle.std.specs.Prelude.{◌||◌, List, [], ◌∷◌, ◌++◌, ℕ, length}
use Rattle.buffers.specs.Buffer.{cell, encode}
use Rattle.requests.specs.declared.Size.{Size}
use Rattle.requests.specs.declared.Buffer.TheVariants.{First, Second}
use Rattle.requests.specs.Answers.{Tests, answered}
use Rattle.requests.specs.Sizes.{over}
use Rattle.requests.specs.Faults.{pair_faults}
use Rattle.steps.specs.Matrix.{schoolbook}
use Rattle.matrix.specs.Job.{product_size, unmatched}
use Rattle.wordbytes.specs.Bytes.{words_in, bytes_of}
use Rattle.cface.specs.Limit.{above, unfit_bytes}

-- the tests of sizes and lengths; l, m and n are how many bytes A, B and the product have
unfoldable pub product_sizes : Size → Size → ℕ → ℕ → ℕ → Tests
product_sizes x y l m n =
    (over x || over y, 1)
    ∷ (above x || above y, 11)
    ∷ (unmatched x y, 2)
    ∷ (unfit_bytes x l || (unfit_bytes y m || unfit_bytes (product_size x y) n), 4)
    ∷ []

unfoldable pub product_face_tests : Size → Size → List ℕ → List ℕ → ℕ → Tests
product_face_tests x y a b n = product_sizes x y (length a) (length b) n ++ pair_faults First Second x y (words_in a) (words_in b)

unfoldable pub product_face : Size → Size → List ℕ → List ℕ → List ℕ → ℕ × List ℕ
product_face x y a b p =
    answered (product_face_tests x y a b (length p)) p
    (bytes_of (encode x.rows y.columns (schoolbook x.columns (cell x.columns (words_in a)) (cell y.columns (words_in b)))))
