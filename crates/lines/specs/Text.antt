-- Numbers as text, in ASCII, and what it means that text was written into lent bytes. Assumes nothing.
use Rattle.std.specs.Prelude.{ℤ, pos, negsuc, ℕ, zero, suc, ◌+◌, ◌/◌, ◌%◌, ◌≡◌, cond, List, [], ◌∷◌, ◌++◌, ltb, length}
use Rattle.std.proofs.lemmas.List.Edits.{sets}

-- the decimal digits of n, the highest first, `most` of them at most
unfoldable pub digits : ℕ → ℕ → List ℕ
digits zero n = []
digits (suc most) n = cond (ltb n 10) ((48 + n) ∷ []) (digits most (n / 10) ++ ((48 + n % 10) ∷ []))

-- all of them: a number has no more digits than ones
abbrev pub decimal : ℕ → List ℕ
decimal n = digits (suc n) n

-- with the sign of a negative number
abbrev pub signed : ℤ → List ℕ
signed (pos n) = decimal n
signed (negsuc n) = 45 ∷ [] ++ decimal (suc n)

abbrev pub blank : List ℕ
blank = 32 ∷ []

abbrev pub newline : List ℕ
newline = 10 ∷ []

-- the bytes `before` became `after`: the text stands there from `at` up to `end`, and all else is as it was
pub record Written (text before : List ℕ) (at end : ℕ) (after : List ℕ) : Type 0 where
  pub place : end ≡ at + length text
  pub bytes : after ≡ sets before at text
