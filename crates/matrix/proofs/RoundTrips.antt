-- Digits packed and unpacked come back the same, both ways, for all sizes. Assumes nothing.
use mathlib.Core.Path.{◌≡◌, sym, ap, ◌∙◌}
use mathlib.Core.List.{List}
use Prim.Native.Nat.{ℕ, ◌+◌, ◌*◌, ◌<◌}
use lib.ListN.{length, get_or}
use Rattle.buffers.specs.Buffer.{cell, Legal, Words, encode}
use Rattle.buffers.proofs.SizeLaws.{cell_lt}
use Rattle.buffers.proofs.BufferLaws.{cell_encode, encode_cell, encode_legal, encode_within}
use Rattle.requests.specs.declared.Size.{Size}
use Rattle.requests.specs.Answers.{Answer, word}
use Rattle.requests.proofs.AnswerLaws.{none_first}
use Rattle.matrix.specs.Unpacked.{byte_at}
use Rattle.matrix.specs.Pack.{pack_of, pack_means}
use Rattle.matrix.specs.Unpack.{unpack_of, unpack_means}
use Rattle.matrix.proofs.UnpackLaws.{bytes_all, byte_of_lem, bytes_length, bytes_small}
use Rattle.matrix.proofs.PackLaws as pack
use Rattle.matrix.proofs.UnpackLaws as unpack
use Rattle.matrix.proofs.Demand1.{pack_exact, unpack_exact}

pub packed_unpacked : (r c : ℕ) (a : List ℕ) → Legal r c a → Words a → pack_of r c (unpack_of r c a) ≡ a
unfolding pack_of unpack_of byte_at
packed_unpacked r c a L fits = encode_within r c _ (cell c a) (λ i j h l. byte_of_lem r c (cell c a) i j h l) ∙ encode_cell r c a L fits

pub unpacked_packed : (r c : ℕ) (cells : List ℕ) → length cells ≡ r * c → ((k : ℕ) → get_or cells k 0 < 3) → unpack_of r c (pack_of r c cells) ≡ cells
unfolding pack_of unpack_of byte_at
unpacked_packed r c cells long small =
    sym (bytes_all (cell c (encode r c (byte_at c cells))) r c cells (record {
      len = long;
      made = λ i j h l. sym (cell_encode r c (byte_at c cells) i j h l (small (i * c + j)));
    }))

-- ---- the two requests, one after the other

-- what was packed is unpacked, into any room of the right length: done, and the digits as they were
pub pack_then_unpack : (s : Size) (cells out back : List ℕ) (r r' : Answer) (o o' : List ℕ) → (word r, o) ≡ pack_means s cells out → word r ≡ 0
    → (word r', o') ≡ unpack_means s o back → length back ≡ length cells → (word r' ≡ 0) × (o' ≡ cells)
unfolding pack_of
pack_then_unpack s cells out back r r' o o' says ok says' room =
    let P = pack_exact s cells out r o says in
    let U = unpack_exact s o back r' o' says' in
    let R = pack.ready s cells (length out) (none_first _ (P.numbered.done.0 ok)) in
    let L : Legal s.rows s.columns o = rw (P.right ok) (encode_legal s.rows s.columns (byte_at s.columns cells)) in
    let z = U.numbered.done.1 (unpack.ready_none s o (length back) (record { rows = R.rows; columns = R.columns; legal = L; room = room ∙ R.long })) in
    (z, U.right z ∙ ap (unpack_of s.rows s.columns) (P.right ok) ∙ unpacked_packed s.rows s.columns cells R.long R.small)

-- what was unpacked is packed, into any room of the right length: done, and the words as they were
pub unpack_then_pack : (s : Size) (a out back : List ℕ) (r r' : Answer) (o o' : List ℕ) → Words a → (word r, o) ≡ unpack_means s a out → word r ≡ 0
    → (word r', o') ≡ pack_means s o back → length back ≡ length a → (word r' ≡ 0) × (o' ≡ a)
unfolding unpack_of
unpack_then_pack s a out back r r' o o' fits says ok says' room =
    let U = unpack_exact s a out r o says in
    let P = pack_exact s o back r' o' says' in
    let R = unpack.ready s a (length out) (none_first _ (U.numbered.done.0 ok)) in
    let long = ap length (U.right ok) ∙ bytes_length s.rows s.columns (cell s.columns a) in
    let small : (k : ℕ) → get_or o k 0 < 3 = rw (U.right ok) (bytes_small s.rows s.columns (cell s.columns a) (cell_lt s.columns a)) in
    let z = P.numbered.done.1 (pack.ready_none s o (length back) (record { rows = R.rows; columns = R.columns; long = long; room = room ∙ R.legal.long; small = small })) in
    (z, P.right z ∙ ap (pack_of s.rows s.columns) (U.right ok) ∙ packed_unpacked s.rows s.columns a R.legal fits)
