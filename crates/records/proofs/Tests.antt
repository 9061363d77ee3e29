-- The tests of a record: its kind by the ends of the kinds, and both ends of a guest range as one distance.
-- Assumes nothing.
use Prim.Native.Nat.{ℕ, ◌+◌, ◌-◌, ◌%◌, ◌≤◌, ◌<◌}
use mathlib.Core.Path.{◌≡◌}
use mathlib.Core.Bool.{true, ◌||◌}
use native.Mathlib.Omega.{arith}
use lib.Dec.{leb, ltb, eqb}
use borrow.Author.Tests.{ltb-true, lt-ltb, leb-true, le-leb, eqb-true, eqb-false, eq-eqb}
use Rattle.sets.specs.Terms.{within}
use Rattle.sets.proofs.Bools.{by_test, iff, and_left, and_right}
use Rattle.records.specs.Passes.{offset_of}

pub in_range : (first number i : ℕ) → within first number i ≡ true → (first ≤ i) × (i < first + number)
in_range first number i e =
    (leb-true first i (and_left (leb first i) (ltb i (first + number)) e), ltb-true i (first + number) (and_right (leb first i) (ltb i (first + number)) e))

pub is_in_range : (first number i : ℕ) → first ≤ i → i < first + number → within first number i ≡ true
is_in_range first number i h l = rw (le-leb first i h, lt-ltb i (first + number) l)

-- of the kinds from 7 on, those of a mapped page
pub mapped_from : (k : ℕ) → 7 ≤ k → leb k 8 ≡ (eqb k 7 || eqb k 8)
mapped_from k h =
    by_test (eqb k 7)
    (λ e. rw (eqb-true k 7 e))
    (λ e. let y = eqb-false k 7 e in rw e (iff (leb k 8) (eqb k 8) (λ q. eq-eqb k 8 (omega (arith, leb-true k 8 q))) (λ q. le-leb k 8 (omega (arith, eqb-true k 8 q)))))

-- from the range's first guest page on it is the difference
pub offset_is : (guest first : ℕ) → first ≤ guest % 1048576 → offset_of guest first ≡ guest % 1048576 - first
offset_is guest first h = omega arith

pub offset_in : (guest first number : ℕ) → first + number ≤ 1048576 → ltb (offset_of guest first) number ≡ within first number (guest % 1048576)
offset_in guest first number h = iff _ _
    (λ e. let l = ltb-true (offset_of guest first) number e in is_in_range first number (guest % 1048576) (omega arith) (omega arith))
    (λ e. let w = in_range first number (guest % 1048576) e in lt-ltb (offset_of guest first) number (omega (arith, w.0, w.1)))
