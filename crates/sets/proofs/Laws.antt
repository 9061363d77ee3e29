-- The laws of sets of small numbers, each stated once.
-- Assumes nothing.
use mathlib.Core.Path.{◌≡◌, refl, sym, ap, ◌∙◌}
use mathlib.Core.Logic.{◌≢◌}
use mathlib.Core.Bool.{Bool, true, false, not, cond, ◌&&◌, ◌||◌}
use Prim.Native.Nat.{ℕ, zero, suc, ◌-◌, ◌*◌, ◌/◌, ◌%◌, ◌^◌, ◌≤◌, ◌<◌}
use native.Mathlib.Nat.{pow-suc, mod-eq_of_lt, one-mul}
use native.Mathlib.Omega.{arith}
use native.Mathlib.Decide.{ℕ_discrete, dec_lt}
use lib.Dec.{eqb, ltb}
use lib.Bits.{bit_or, bit_and}
use lib.Pow.{ones_lt, pow-lt}
use lib.Count.{ones, ones_step}
use borrow.Author.Tests.{eqb-true, eqb-false, eq-eqb, ne_eqb, lt-ltb, le-ltb}
use Rattle.sets.specs.Look.{count}
use Rattle.sets.specs.Set.{member, with, without, full}
use Rattle.sets.proofs.Bools.{by_test}
use Rattle.sets.proofs.Looks.{count_low, count_same}
use Rattle.sets.proofs.BinaryDigits.{bit, put, bit_lt, bit_shift, put_same, put_other, put_is, put_add, put_sub, put-or, put-and, put_lt, bit_ones, bit_past, same_digits}

pub member_is : (k s : ℕ) → member k s ≡ eqb (bit k s) 1
unfolding member
member_is k s = ap (λ (x : ℕ). eqb x 1) (bit_shift k s)

one : (k s : ℕ) → member k s ≡ true → bit k s ≡ 1
one k s e = eqb-true (bit k s) 1 (sym (member_is k s) ∙ e)

none : (k s : ℕ) → member k s ≡ false → bit k s ≡ 0
none k s e = let h : bit k s ≢ 1 = eqb-false (bit k s) 1 (sym (member_is k s) ∙ e) in omega (arith, bit_lt k s)

pub with-put : (s k : ℕ) → with s k ≡ put 1 k s
unfolding with
with-put s k =
    by_test (member k s) (λ e. rw e (sym (put_is 1 k s (one k s e)))) (λ e. rw e (sym (put_add k s (none k s e))))

pub without-put : (s k : ℕ) → without s k ≡ put 0 k s
unfolding without
without-put s k =
    by_test (member k s) (λ e. rw e (omega (arith, put_sub k s (one k s e)))) (λ e. rw e (sym (put_is 0 k s (none k s e))))

-- what the bit operator makes
pub with-or : (s k : ℕ) → bit_or s (2 ^ k) ≡ with s k
with-or s k = put-or k s ∙ sym (with-put s k)

pub without-and : (n s k : ℕ) → s < 2 ^ n → k < n → bit_and s ((2 ^ n - 1) - 2 ^ k) ≡ without s k
without-and n s k h l = put-and n k s h l ∙ sym (without-put s k)

member-put : (d j k s : ℕ) → d < 2 → member j (put d k s) ≡ cond (eqb j k) (eqb d 1) (member j s)
member-put d j k s h = member_is j (put d k s) ∙ go (ℕ_discrete j k)
  where
    go : Dec (j ≡ k) → eqb (bit j (put d k s)) 1 ≡ cond (eqb j k) (eqb d 1) (member j s)
    go (yes e) = rw (eq-eqb j k e, e, put_same d k s h)
    go (no n) = rw (ne_eqb j k n, put_other d j k s h n, member_is j s)

pub member-with : (j s k : ℕ) → member j (with s k) ≡ (eqb j k || member j s)
member-with j s k = ap (member j) (with-put s k) ∙ member-put 1 j k s (omega arith) ∙ or (eqb j k)
  where
    or : (b : Bool) → cond b true (member j s) ≡ (b || member j s)
    or true = refl
    or false = refl

pub member-without : (j s k : ℕ) → member j (without s k) ≡ (not (eqb j k) && member j s)
member-without j s k = ap (member j) (without-put s k) ∙ member-put 0 j k s (omega arith) ∙ and (eqb j k)
  where
    and : (b : Bool) → cond b false (member j s) ≡ (not b && member j s)
    and true = refl
    and false = refl

-- two sets of numbers below n with the same members are equal
pub ext : (n s t : ℕ) → s < 2 ^ n → t < 2 ^ n → ((k : ℕ) → k < n → member k s ≡ member k t) → s ≡ t
ext n s t hs ht h = same_digits n s t hs ht (λ k l. by_test (member k t) (λ e. one k s (h k l ∙ e) ∙ sym (one k t e)) (λ e. none k s (h k l ∙ e) ∙ sym (none k t e)))

-- the count of ones is the number of members
pub count_ones : (n s : ℕ) → s < 2 ^ n → ones s ≡ count (λ k. member k s) n
unfolding count ones
count_ones zero s h = let e : s ≡ 0 = omega arith in rw e
count_ones (suc n) s h =
    omega (
      arith,
      ones_step s,
      count_low (λ k. member k s) n,
      low (member 0 s) refl,
      count_ones n (s / 2) (omega (arith, pow-suc 2 n)),
      count_same (λ k. member (suc k) s) (λ k. member k (s / 2)) n (λ k l. member_is (suc k) s ∙ sym (member_is k (s / 2))),
    )
  where
    low : (b : Bool) → member 0 s ≡ b → cond b 1 0 ≡ s % 2
    low true e = sym (one 0 s e)
    low false e = sym (none 0 s e)

-- the full set of the first n
pub member-full : (n k : ℕ) → member k (full n) ≡ ltb k n
unfolding full
member-full n k = member_is k (2 ^ n - 1) ∙ go (dec_lt k n)
  where
    go : Dec (k < n) → eqb (bit k (2 ^ n - 1)) 1 ≡ ltb k n
    go (yes h) = rw (bit_ones n k h, lt-ltb k n h)
    go (no h) = rw (bit_past n k (2 ^ n - 1) (ones_lt n) (omega arith), le-ltb k n (omega arith))

-- the machine's `1 << k`
pub one_shl : (w k : ℕ) → k < w → 1 * 2 ^ k % 2 ^ w ≡ 2 ^ k
one_shl w k h = let l : 2 ^ k < 2 ^ w = pow-lt h in ap (λ (x : ℕ). x % 2 ^ w) (one-mul (2 ^ k)) ∙ mod-eq_of_lt l

pub with_lt : (n s k : ℕ) → k < n → s < 2 ^ n → with s k < 2 ^ n
with_lt n s k l h = rw with-put (put_lt n 1 k s (omega arith) l h)

pub without_lt : (n s k : ℕ) → s < 2 ^ n → without s k < 2 ^ n
unfolding without
without_lt n s k h = go (member k s)
  where
    go : (b : Bool) → cond b (s - 2 ^ k) s < 2 ^ n
    go true = omega arith
    go false = h

pub member_past : (n k s : ℕ) → s < 2 ^ n → n ≤ k → member k s ≡ false
member_past n k s h l = member_is k s ∙ ap (λ (x : ℕ). eqb x 1) (bit_past n k s h l)

pub member_none : (k : ℕ) → member k 0 ≡ false
member_none k = member_past 0 k 0 (omega arith) (omega arith)
