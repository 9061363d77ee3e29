-- The decimal digits of a number: enough of them are all, how many they are, and that they say the number. Assumes nothing.
use Prim.Native.Nat.{ℕ, zero, suc, ◌+◌, ◌-◌, ◌*◌, ◌/◌, ◌%◌, ◌^◌, ◌<◌, ◌≤◌}
use mathlib.Core.Path.{◌≡◌, refl}
use mathlib.Core.List.{List, [], ◌∷◌, ◌++◌}
use native.Mathlib.Omega.{arith}
use lib.Dec.{ltb}
use lib.ListN.{length, length-append}
use borrow.Author.Tests.{lt-ltb, le-ltb, ltb-false}
use Rattle.sets.proofs.Bools.{by_test}
use Rattle.lines.specs.Text.{digits, decimal}
use Rattle.lines.specs.Promises.{reads, DecimalReads}

-- more digits than ones are not needed
enough : (a b n : ℕ) → n < a → n < b → digits a n ≡ digits b n
unfolding digits
enough zero b n h k = absurd (omega arith)
enough (suc a) zero n h k = absurd (omega arith)
enough (suc a) (suc b) n h k =
    by_test (ltb n 10) (λ e. rw e) (λ e. let l = ltb-false n 10 e in rw (e, enough a b (n / 10) (omega arith) (omega arith)))

pub one_digit : (n : ℕ) → n < 10 → decimal n ≡ (48 + n % 10) ∷ []
unfolding digits
one_digit n h = let e : n % 10 ≡ n = omega arith in rw (lt-ltb n 10 h, e)

pub more_digits : (n : ℕ) → 10 ≤ n → decimal n ≡ decimal (n / 10) ++ ((48 + n % 10) ∷ [])
unfolding digits
more_digits n h = rw (le-ltb n 10 h, enough n (suc (n / 10)) (n / 10) (omega arith) (omega arith))

-- k digits are enough below 10 to the k
few : (k n m : ℕ) → n < 10 ^ suc k → n < m → length (digits m n) ≤ suc k
unfolding digits
few k n zero h l = absurd (omega arith)
few zero n (suc m) h l = rw (lt-ltb n 10 (omega arith)) (omega arith)
few (suc k) n (suc m) h l =
    by_test (ltb n 10) (λ e. rw e (omega arith))
    (λ e. let f = ltb-false n 10 e in rw e (omega (arith, few k (n / 10) m (omega arith) (omega arith), length-append (digits m (n / 10)) ((48 + n % 10) ∷ []))))

pub at_most : (k n : ℕ) → n < 10 ^ suc k → length (decimal n) ≤ suc k
at_most k n h = few k n (suc n) h (omega arith)

-- what digits say, read on from a number
reads_append : (a b : List ℕ) (n : ℕ) → reads n (a ++ b) ≡ reads (reads n a) b
reads_append [] b n = refl
reads_append (d ∷ a) b n = reads_append a b (10 * n + (d - 48))

reads-digits : (m n : ℕ) → n < m → reads 0 (digits m n) ≡ n
unfolding digits
reads-digits zero n h = absurd (omega arith)
reads-digits (suc m) n h =
    by_test (ltb n 10) (λ e. rw e (omega arith))
    (λ e. let l = ltb-false n 10 e in rw (e, reads_append (digits m (n / 10)) ((48 + n % 10) ∷ []) 0, reads-digits m (n / 10) (omega arith)) (omega arith))

pub decimal-reads : DecimalReads
decimal-reads n = reads-digits (suc n) n (omega arith)
