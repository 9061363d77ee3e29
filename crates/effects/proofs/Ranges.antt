-- Ranges of records written: what a step from record to record comes to, and two ranges one after the other.
-- Assumes nothing.
use Prim.Native.Nat.{ℕ, ◌+◌, ◌-◌, ◌*◌, ◌≤◌, ◌<◌, ◌^◌}
use mathlib.Core.Path.{◌≡◌, refl, ap, fun_ext}
use mathlib.Core.Bool.{Bool, true, false, cond, ◌||◌}
use native.Mathlib.Omega.{arith}
use native.Mathlib.Nat.{zero-add}
use lib.Dec.{ltb}
use borrow.Author.Tests.{le-leb}
use Rattle.sets.specs.Terms.{within}
use Rattle.rules.specs.declared.Page.{Page}
use Rattle.rules.specs.Page.{Table, over, page, guest_word}
use Rattle.records.specs.Passes.{stepped}

module _ (t : Table) (first n : ℕ) where
  -- no step
  pub flat : (kind slot version : ℕ) → over t (within first n) (λ i. stepped (page kind slot version 0) 0 (i - first)) ≡ over t (within first n) (λ i. page kind slot version 0)
  flat kind slot version = ap (over t (within first n)) (fun_ext (λ i. ap (page kind slot version) (nothing (i - first))))
    where
      nothing : (d : ℕ) → 0 + 0 * d ≡ 0
      nothing d = omega arith

  -- a step of one guest page
  pub rising : (slot guest : ℕ) (large : Bool) → over t (within first n) (λ i. stepped (page 7 slot 0 (guest_word guest large)) 1 (i - first))
      ≡ over t (within first n) (λ i. page 7 slot 0 (guest_word (guest + (i - first)) large))
  rising slot guest large = ap (over t (within first n)) (fun_ext (λ i. ap (page 7 slot 0) (one (i - first) (cond large 2147483648 0))))
    where
      one : (d b : ℕ) → guest + b + 1 * d ≡ guest + d + b
      one d b = omega arith

pub word_fits : (first pages : ℕ) (large : Bool) (g : ℕ) → g ≡ guest_word first large → first + pages ≤ 1048576 → g + 1 * pages < 2 ^ 32
word_fits first pages true g e h = omega arith
word_fits first pages false g e h = omega arith

-- the second range where the two meet
pub over-over : (t : Table) (u w : ℕ → Bool) (slot : ℕ) → over (over t u (λ i. page 4 slot 0 0)) w (λ i. page 3 slot 0 0) ≡ over t (λ i. w i || u i) (λ i. page (cond (w i) 3 4) slot 0 0)
over-over t u w slot = λ i. record { bytes = t.bytes; page = fun_ext at i }
  where
    go : (a b : Bool) (p : Page) → cond a (page 3 slot 0 0) (cond b (page 4 slot 0 0) p) ≡ cond (a || b) (page (cond a 3 4) slot 0 0) p
    go true b p = refl
    go false b p = refl

    at : (j : ℕ) → cond (w j) (page 3 slot 0 0) (cond (u j) (page 4 slot 0 0) (t.page j)) ≡ cond (w j || u j) (page (cond (w j) 3 4) slot 0 0) (t.page j)
    at j = go (w j) (u j) (t.page j)

pub from_zero : (n : ℕ) → within 0 n ≡ (λ i. ltb i n)
from_zero n = fun_ext (λ i. rw (le-leb 0 i (omega arith), zero-add n))
