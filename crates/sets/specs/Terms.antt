-- Terms in which definitions are written, beside the library's own numbers, tests and lists.
use Rattle.std.specs.Prelude.{ℕ, ◌+◌, Bool, false, cond, ◌&&◌, ◌||◌, List, [], ◌∷◌, map, ltb, leb, eqb}

-- one of the tests holds
unfoldable pub one_from : Bool → List Bool → Bool
one_from a [] = a
one_from a (b ∷ bs) = one_from (a || b) bs

unfoldable pub one_of : List Bool → Bool
one_of [] = false
one_of (b ∷ bs) = one_from b bs

-- i is one of the `number` numbers from `first` on
abbrev pub within : ℕ → ℕ → ℕ → Bool
within first number i = leb first i && ltb i (first + number)

module _ {A : Type 0} where
  -- some element of a list passes
  abbrev pub any_in : (A → Bool) → List A → Bool
  any_in p xs = one_of (map p xs)

  -- f with v at the place k
  abbrev pub put : ℕ → A → (ℕ → A) → ℕ → A
  put k v f j = cond (eqb j k) v (f j)

  -- v where n is k, and r elsewhere: a row of a table by number
  abbrev pub row : ℕ → ℕ → A → A → A
  row n k v r = cond (eqb n k) v r
