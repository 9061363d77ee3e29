-- A set of numbers in a list of words of w digits: number d is digit d % w of word d / w.
use Rattle.std.specs.Prelude.{ℕ, ◌+◌, ◌/◌, ◌%◌, Bool, List, [], ◌∷◌, get_or, set}
use Rattle.std.specs.Int.Count.{ones}
use Rattle.sets.specs.Set.{member, with, without}

unfoldable pub member_in : ℕ → ℕ → List ℕ → Bool
member_in w d xs = member (d % w) (get_or xs (d / w) 0)

unfoldable pub with_in : ℕ → List ℕ → ℕ → List ℕ
with_in w xs d = set xs (d / w) (with (get_or xs (d / w) 0) (d % w))

unfoldable pub without_in : ℕ → List ℕ → ℕ → List ℕ
without_in w xs d = set xs (d / w) (without (get_or xs (d / w) 0) (d % w))

-- how many numbers are in the words: the ones of each, added up
unfoldable pub ones_in : List ℕ → ℕ
ones_in [] = 0
ones_in (x ∷ xs) = ones x + ones_in xs
