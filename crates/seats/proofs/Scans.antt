-- What `any` and `find` over the numbers below n answer.
-- Assumes nothing.
use Prim.Native.Nat.{ℕ, ◌≤◌, ◌<◌}
use mathlib.Core.Path.{◌≡◌, refl, sym, ◌∙◌, ap}
use mathlib.Core.Bool.{Bool, true, false, cond, not}
use native.Mathlib.Omega.{arith}
use mathlib.Core.List.{List}
use native.Mathlib.Nat.{zero-add}
use lib.ListN.{length, get_or}
use lib.Dec.{ltb}
use borrow.Author.Tests.{lt-ltb, le-ltb, ltb-false}
use Rattle.std.specs.Prelude.{Option, None, Some, MatchOption, is_some}
use Rattle.std.specs.Option.{unwrap_or}
use Rattle.std.specs.Bool.{MatchBool}
use Rattle.std.specs.List.{range_with_len, AllWithin, HoldsAt}
use Rattle.std.proofs.lemmas.List.FromFn.{length-range_with_len, get_or-range_with_len}
use Rattle.sets.specs.Look.{any, lowest}
use Rattle.sets.proofs.Looks.{any_hit, any_off, lowest_hit, lowest_le, lowest_none, lowest-any}
use Rattle.sets.proofs.Bools.{by_test}
use Rattle.seats.specs.Room.{found}

module _ (p : ℕ → Bool) (n : ℕ) where
  abbrev numbers : List ℕ
  numbers = range_with_len 0 n

  at : (i : ℕ) → i < n → get_or numbers i 0 ≡ i
  at i h = get_or-range_with_len 0 n i 0 h ∙ zero-add i

  pub any_over : (r : Bool)
      → MatchBool r ((k : ℕ) × (k < length numbers) × HoldsAt (λ i. p i ≡ true) numbers k) (AllWithin (λ i. p i ≡ false) numbers 0 (length numbers))
      → r ≡ any p n
  any_over true (k, l, h) = let b : k < n = rw (← length-range_with_len 0 n) l in sym (any_hit p k n b (ap p (sym (at k b)) ∙ h 0))
  any_over false h = sym (any_off p n (λ k b. ap p (sym (at k b)) ∙ h k 0 (omega arith) (rw (length-range_with_len 0 n) b)))

  pub find_over : (r : Option ℕ)
      → MatchOption r ((k : ℕ) → 0 ≤ k → k < n → p k ≡ false) (λ i. (0 ≤ i) × (i < n) × (p i ≡ true) × ((k : ℕ) → 0 ≤ k → k < i → p k ≡ false))
      → r ≡ found n (lowest p n)
  find_over None h = rw (lowest_none p n (any_off p n (λ k b. h k (omega arith) b)), le-ltb n n (omega arith))
  find_over (Some i) (z, b, h, none) = rw (lowest_hit p i n b (any_off p i (λ k l. none k (omega arith) l)) h, lt-ltb i n b)

  -- none is found exactly where none passes
  pub find_none : (o : Option ℕ) (r : Bool) → o ≡ found n (lowest p n) → is_some o ≡ not r → r ≡ not (any p n)
  find_none o r e h = twice r ∙ ap not (sym h ∙ ap is_some e ∙ below (ltb (lowest p n) n) ∙ lowest-any p n)
    where
      twice : (b : Bool) → b ≡ not (not b)
      twice true = refl
      twice false = refl

      below : (b : Bool) → is_some (cond b (Some (lowest p n)) None) ≡ b
      below true = refl
      below false = refl

  pub find_or : (o : Option ℕ) (r : ℕ) → o ≡ found n (lowest p n) → r ≡ unwrap_or o n → r ≡ lowest p n
  find_or o r e h = h ∙ ap (λ (x : Option ℕ). unwrap_or x n) e ∙ by_test (ltb (lowest p n) n)
      (λ b. rw b)
      (λ b. let z = ltb-false (lowest p n) n b in rw b (omega (arith, lowest_le p n)))
