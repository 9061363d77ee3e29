-- A search among the numbers below a bound.
use Rattle.std.specs.Prelude.{ℕ, cond, ltb, Option, None, Some}

-- a lowest number that passes; none where it is the bound
abbrev pub found : ℕ → ℕ → Option ℕ
found bound i = cond (ltb i bound) (Some i) None
