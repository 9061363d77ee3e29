-- A part of a list written: what stands in it, and what stands outside of it.
-- Assumes nothing.
use Prim.Native.Nat.{ℕ, ◌+◌, ◌-◌, ◌≤◌, ◌<◌}
use mathlib.Core.Path.{◌≡◌, sym, ap, ◌∙◌}
use mathlib.Core.Logic.{◌⊎◌, ⊎_elim}
use mathlib.Core.List.{List, ◌++◌}
use native.Mathlib.Omega.{arith}
use borrow.Rule.Slice.PartMut.{put_mid, post_of}
use lib.ListN.{length, get_or, take, drop, length-append, length-drop, get_or-append}
use lib.Seq.{length-take-le, get_or-append-add, get_or-take, get_or-drop}

-- the k numbers of xs from a on become ys
module _ (a k : ℕ) (xs ys : List ℕ) (many : length ys ≡ k) (room : a + k ≤ length xs) where
  front : length (take a xs) ≡ a
  front = length-take-le a xs (omega arith)

  pub put_length : length (put_mid a k xs ys) ≡ length xs
  put_length =
      omega (arith, length-append (take a xs) (ys ++ post_of a k xs), length-append ys (post_of a k xs), front, length-drop k (drop a xs), length-drop a xs)

  pub put_in : (j : ℕ) → j < k → get_or (put_mid a k xs ys) (a + j) 0 ≡ get_or ys j 0
  put_in j l =
      ap (λ (x : ℕ). get_or (take a xs ++ (ys ++ post_of a k xs)) (x + j) 0) (sym front)
      ∙ get_or-append-add (take a xs) (ys ++ post_of a k xs) j 0
      ∙ get_or-append ys (post_of a k xs) 0 j (omega arith)

  before : (j : ℕ) → j < a → get_or (put_mid a k xs ys) j 0 ≡ get_or xs j 0
  before j l = get_or-append (take a xs) (ys ++ post_of a k xs) 0 j (omega (arith, front)) ∙ get_or-take a xs j 0 l

  after : (j : ℕ) → a + k ≤ j → get_or (put_mid a k xs ys) j 0 ≡ get_or xs j 0
  after j l =
      let d = j - (a + k) in
      let q : j ≡ length (take a xs) + (length ys + d) = omega (arith, front) in
      let q' : a + (k + d) ≡ j = omega arith in
      ap (λ (x : ℕ). get_or (take a xs ++ (ys ++ post_of a k xs)) x 0) q
      ∙ get_or-append-add (take a xs) (ys ++ post_of a k xs) (length ys + d) 0
      ∙ get_or-append-add ys (post_of a k xs) d 0
      ∙ get_or-drop k (drop a xs) d 0
      ∙ get_or-drop a xs (k + d) 0
      ∙ ap (λ (x : ℕ). get_or xs x 0) q'

  pub put_out : (j : ℕ) → (j < a) ⊎ (a + k ≤ j) → get_or (put_mid a k xs ys) j 0 ≡ get_or xs j 0
  put_out j o = ⊎_elim (before j) (after j) o
