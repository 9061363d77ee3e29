-- Sets of small numbers, kept as the binary digits of a number.
use Rattle.std.specs.Prelude.{Bool, cond, ℕ, ◌+◌, ◌-◌, ◌/◌, ◌%◌, ◌^◌, eqb}

-- k is in the set s: digit k of s is 1
unfoldable pub member : ℕ → ℕ → Bool
member k s = eqb (s / 2 ^ k % 2) 1

-- s with k
unfoldable pub with : ℕ → ℕ → ℕ
with s k = cond (member k s) s (s + 2 ^ k)

-- s without k
unfoldable pub without : ℕ → ℕ → ℕ
without s k = cond (member k s) (s - 2 ^ k) s

-- the numbers below n
unfoldable pub full : ℕ → ℕ
full n = 2 ^ n - 1
