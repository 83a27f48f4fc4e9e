-- A list after a write to its elements from place a on, k of them: what is read there is ys, and all else is as it was. Assumes nothing.
use Rattle.std.proofs.Common.{◌≡◌, ℕ, ◌+◌, ◌≤◌, ◌<◌, List, length, get_or, rules}
use Rattle.std.proofs.lemmas.List.{places}
use borrow.Rule.Slice.PartMut.{put_mid}

module _ (a k : ℕ) (xs ys : List ℕ) (room : a + k ≤ length xs) (long : length ys ≡ k) where
  pub put_long : length (put_mid a k xs ys) ≡ length xs
  put_long = search (rules, places)

  pub put_before : (j : ℕ) → j < a → get_or (put_mid a k xs ys) j 0 ≡ get_or xs j 0
  put_before j l = search (rules, places)

  pub put_within : (t : ℕ) → t < k → get_or (put_mid a k xs ys) (a + t) 0 ≡ get_or ys t 0
  put_within t l = search (rules, places)
