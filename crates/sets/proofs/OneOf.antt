-- Laws of `one_of`, which says that one of some tests holds.
-- Assumes nothing.
use Prim.Native.Nat.{ℕ, zero, suc}
use mathlib.Core.Bool.{Bool, true, false, ◌||◌}
use mathlib.Core.List.{List, [], ◌∷◌}
use mathlib.Core.Path.{◌≡◌, refl}
use lib.ListN.{get_or}
use Rattle.sets.proofs.Bools.{or_right}
use Rattle.sets.specs.Terms.{one_of, one_from}

head_off : (a : Bool) (bs : List Bool) → one_from a bs ≡ false → a ≡ false
unfolding one_from
head_off a [] h = h
head_off true (b ∷ bs) h = head_off true bs h
head_off false (b ∷ bs) h = refl

tail_off : (a : Bool) (bs : List Bool) → one_from a bs ≡ false → (k : ℕ) → get_or bs k false ≡ false
unfolding one_from
tail_off a [] h k = refl
tail_off a (b ∷ bs) h zero = or_right a b (head_off (a || b) bs h)
tail_off a (b ∷ bs) h (suc k) = tail_off (a || b) bs h k

-- where none of the tests holds, test k does not
pub one_off : (bs : List Bool) → one_of bs ≡ false → (k : ℕ) → get_or bs k false ≡ false
unfolding one_of
one_off [] h k = refl
one_off (b ∷ bs) h zero = head_off b bs h
one_off (b ∷ bs) h (suc k) = tail_off b bs h k

none_from : (bs : List Bool) → ((k : ℕ) → get_or bs k false ≡ false) → one_from false bs ≡ false
unfolding one_from
none_from [] h = refl
none_from (b ∷ bs) h = rw (h 0) (none_from bs (λ k. h (suc k)))

-- where each test fails, none holds
pub one_none : (bs : List Bool) → ((k : ℕ) → get_or bs k false ≡ false) → one_of bs ≡ false
unfolding one_of
one_none [] h = refl
one_none (b ∷ bs) h = rw (h 0) (none_from bs (λ k. h (suc k)))
