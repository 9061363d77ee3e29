-- Laws of looking at every number below a bound.
-- Assumes nothing.
use Prim.Native.Nat.{ℕ, zero, suc, ◌+◌, ◌≤◌, ◌<◌}
use mathlib.Core.Path.{◌≡◌, refl, sym, ◌∙◌, ap, ap₂}
use mathlib.Core.Logic.{⊎_elim}
use mathlib.Core.Bool.{Bool, true, false, cond, not, ◌&&◌, ◌||◌, true≢false, false≢true, or-true}
use native.Mathlib.Omega.{arith}
use native.Mathlib.Numerals.{add-one}
use native.Mathlib.Nat.{add-zero, add-suc, not-suc-le-zero, le_of_suc-le-suc, eq-or-lt_of_le}
use lib.Dec.{ltb, eqb}
use borrow.Author.Tests.{ltb-true, ltb-false, lt-ltb, le-ltb, eqb-true, eqb-false, eq-eqb, ne_eqb}
use Rattle.sets.specs.Look.{any, all, count, lowest}
use Rattle.sets.proofs.Bools.{or_left, or_right, or_cases, and_left, and_right, by_test}

-- one number more
pub any_next : (p : ℕ → Bool) (i : ℕ) → any p (i + 1) ≡ (any p i || p i)
unfolding any
any_next p i = rw add-one

pub any_more : (p : ℕ → Bool) (i : ℕ) → any p i ≡ false → p i ≡ false → any p (i + 1) ≡ false
unfolding any
any_more p i e h = rw (add-one, e, h)

pub any_hit : (p : ℕ → Bool) (i n : ℕ) → i < n → p i ≡ true → any p n ≡ true
unfolding any
any_hit p i zero l h = absurd (not-suc-le-zero l)
any_hit p i (suc n) l h =
    ⊎_elim
    (λ e. ap (λ (b : Bool). any p n || b) (ap p (sym e) ∙ h) ∙ or-true (any p n))
    (λ lt. ap (λ (b : Bool). b || p n) (any_hit p i n lt h))
    (eq-or-lt_of_le (le_of_suc-le-suc l))

-- one that passes
pub any_one : (p : ℕ → Bool) (n : ℕ) → any p n ≡ true → (i : ℕ) × (i < n) × (p i ≡ true)
unfolding any
any_one p zero e = absurd (false≢true e)
any_one p (suc n) e = ⊎_elim (λ h. let (i, l, q) = any_one p n h in (i, omega arith, q)) (λ h. (n, omega arith, h)) (or_cases (any p n) (p n) e)

pub any_at : (p : ℕ → Bool) (n i : ℕ) → any p n ≡ false → i < n → p i ≡ false
any_at p n i e l = by_test (p i) (λ h. absurd (true≢false (sym (any_hit p i n l h) ∙ e))) (λ h. h)

pub any_ext : (p q : ℕ → Bool) (n : ℕ) → ((k : ℕ) → k < n → p k ≡ q k) → any p n ≡ any q n
unfolding any
any_ext p q zero h = refl
any_ext p q (suc n) h = ap₂ ◌||◌ (any_ext p q n (λ k l. h k (omega arith))) (h n (omega arith))

-- where none passes
pub any_off : (p : ℕ → Bool) (n : ℕ) → ((k : ℕ) → k < n → p k ≡ false) → any p n ≡ false
unfolding any
any_off p zero h = refl
any_off p (suc n) h = rw (any_off p n (λ k l. h k (omega arith)), h n (omega arith))

pub all_at : (p : ℕ → Bool) (n i : ℕ) → all p n ≡ true → i < n → p i ≡ true
unfolding all
all_at p zero i e l = absurd (not-suc-le-zero l)
all_at p (suc n) i e l =
    ⊎_elim
    (λ q. ap p q ∙ and_right (all p n) (p n) e)
    (λ lt. all_at p n i (and_left (all p n) (p n) e) lt)
    (eq-or-lt_of_le (le_of_suc-le-suc l))

-- not all pass: some does not
pub not-all : (p : ℕ → Bool) (n : ℕ) → not (all p n) ≡ any (λ i. not (p i)) n
unfolding any all
not-all p zero = refl
not-all p (suc n) = go (all p n) (p n) ∙ ap (λ (b : Bool). b || not (p n)) (not-all p n)
  where
    go : (a b : Bool) → not (a && b) ≡ (not a || not b)
    go true b = refl
    go false b = refl

pub count_same : (f g : ℕ → Bool) (n : ℕ) → ((k : ℕ) → k < n → f k ≡ g k) → count f n ≡ count g n
unfolding count
count_same f g zero h = refl
count_same f g (suc n) h = ap₂ (λ (x : ℕ) (b : Bool). x + cond b 1 0) (count_same f g n (λ k l. h k (omega arith))) (h n (omega arith))

pub count_le : (f : ℕ → Bool) (n : ℕ) → count f n ≤ n
unfolding count
count_le f zero = omega arith
count_le f (suc n) = go (f n) (count_le f n)
  where
    go : (b : Bool) → count f n ≤ n → count f n + cond b 1 0 ≤ suc n
    go true h = omega arith
    go false h = omega arith

pub count_none : (f : ℕ → Bool) (n : ℕ) → ((k : ℕ) → k < n → f k ≡ false) → count f n ≡ 0
unfolding count
count_none f zero h = refl
count_none f (suc n) h = rw (count_none f n (λ k l. h k (omega arith)), h n (omega arith))

-- all n are counted exactly where all pass
pub count-all : (f : ℕ → Bool) (n : ℕ) → eqb (count f n) n ≡ all f n
unfolding count all
count-all f zero = refl
count-all f (suc n) = go (f n) (count-all f n) (count_le f n)
  where
    go : (b : Bool) → eqb (count f n) n ≡ all f n → count f n ≤ n → eqb (count f n + cond b 1 0) (suc n) ≡ (all f n && b)
    go true e l = by_test (eqb (count f n) n) (λ q. let z = eqb-true (count f n) n q in rw (eq-eqb (count f n + 1) (suc n) (omega arith), ← e, q))
        (λ q. let z = eqb-false (count f n) n q in rw (ne_eqb (count f n + 1) (suc n) (λ y. z (omega arith)), ← e, q))
    go false e l = rw (ne_eqb (count f n + 0) (suc n) (λ y. omega arith)) (off (all f n))
      where
        off : (a : Bool) → false ≡ (a && false)
        off true = refl
        off false = refl

-- one number more passes
pub count_one_more : (f g : ℕ → Bool) (x n : ℕ) → x < n → f x ≡ false → ((k : ℕ) → k < n → g k ≡ (eqb k x || f k)) → count g n ≡ count f n + 1
unfolding count
count_one_more f g x zero l e h = absurd (not-suc-le-zero l)
count_one_more f g x (suc n) l e h =
    ⊎_elim
    (λ q. let z : g n ≡ true = h n (omega arith) ∙ rw (eq-eqb n x (sym q)) in
    let y : f n ≡ false = ap f (sym q) ∙ e in
    let same : count g n ≡ count f n = count_same g f n (λ k b. h k (omega arith) ∙ rw (ne_eqb k x (λ r. omega arith))) in
    rw (z, y, same) (omega arith))
    (λ lt. let z : g n ≡ f n = h n (omega arith) ∙ rw (ne_eqb n x (λ r. omega arith)) in
    let up : (k : ℕ) → k < n → g k ≡ (eqb k x || f k) = λ k b. h k (omega arith) in
    let more : count g n ≡ count f n + 1 = count_one_more f g x n lt e up in
    rw (z, more) (omega arith))
    (eq-or-lt_of_le (le_of_suc-le-suc l))

-- counts go over the lowest number first as well
pub count_low : (f : ℕ → Bool) (n : ℕ) → count f (suc n) ≡ cond (f 0) 1 0 + count (λ k. f (suc k)) n
unfolding count
count_low f zero = omega arith
count_low f (suc n) = omega (arith, count_low f n)

-- counting on from n
pub count_add : (f : ℕ → Bool) (n m : ℕ) → count f (n + m) ≡ count f n + count (λ k. f (n + k)) m
unfolding count
count_add f n zero = rw (add-zero n) (omega arith)
count_add f n (suc m) = rw (add-suc n m) (omega (arith, count_add f n m))

-- the lowest that passes is at most n; where it is below n it passes
pub lowest_le : (p : ℕ → Bool) (n : ℕ) → lowest p n ≤ n
unfolding lowest
lowest_le p zero = omega arith
lowest_le p (suc n) = go (ltb (lowest p n) n) (p n) (lowest_le p n)
  where
    go : (b c : Bool) → lowest p n ≤ n → cond b (lowest p n) (cond c n (suc n)) ≤ suc n
    go true c h = omega arith
    go false true h = omega arith
    go false false h = omega arith

pub lowest_true : (p : ℕ → Bool) (n : ℕ) → lowest p n < n → p (lowest p n) ≡ true
unfolding lowest
lowest_true p zero h = absurd (omega arith)
lowest_true p (suc n) h = go (ltb (lowest p n) n) refl (p n) refl (lowest_true p n) h
  where
    go : (b : Bool) → ltb (lowest p n) n ≡ b → (c : Bool) → p n ≡ c → (lowest p n < n → p (lowest p n) ≡ true)
        → cond b (lowest p n) (cond c n (suc n)) < suc n → p (cond b (lowest p n) (cond c n (suc n))) ≡ true
    go true e c d f u = f (ltb-true (lowest p n) n e)
    go false e true d f u = d
    go false e false d f u = absurd (omega arith)

-- none below the lowest passes
pub lowest-first : (p : ℕ → Bool) (n : ℕ) → any p (lowest p n) ≡ false
unfolding any lowest
lowest-first p zero = refl
lowest-first p (suc n) = go (ltb (lowest p n) n) refl (p n) refl (lowest-first p n) (lowest_le p n)
  where
    go : (b : Bool) → ltb (lowest p n) n ≡ b → (c : Bool) → p n ≡ c → any p (lowest p n) ≡ false → lowest p n ≤ n → any p (cond b (lowest p n) (cond c n (suc n))) ≡ false
    go true e c d h l = h
    go false e true d h l = let q : lowest p n ≡ n = omega (arith, ltb-false (lowest p n) n e) in ap (any p) (sym q) ∙ h
    go false e false d h l = let q : lowest p n ≡ n = omega (arith, ltb-false (lowest p n) n e) in rw (ap (any p) (sym q) ∙ h, d)

-- a search that met none below i
pub lowest_none : (p : ℕ → Bool) (n : ℕ) → any p n ≡ false → lowest p n ≡ n
unfolding any lowest
lowest_none p zero e = refl
lowest_none p (suc n) e =
    let r = lowest_none p n (or_left (any p n) (p n) e) in
    rw (le-ltb (lowest p n) n (omega arith), or_right (any p n) (p n) e)

pub lowest_hit : (p : ℕ → Bool) (i n : ℕ) → i < n → any p i ≡ false → p i ≡ true → lowest p n ≡ i
unfolding lowest
lowest_hit p i zero l e h = absurd (not-suc-le-zero l)
lowest_hit p i (suc n) l e h =
    ⊎_elim
    (λ q. let r : lowest p n ≡ n = lowest_none p n (ap (any p) (sym q) ∙ e) in
    let h' : p n ≡ true = ap p (sym q) ∙ h in
    rw (le-ltb (lowest p n) n (omega arith), h') (sym q))
    (λ lt. let r : lowest p n ≡ i = lowest_hit p i n lt e h in
    rw (lt-ltb (lowest p n) n (omega arith)) r)
    (eq-or-lt_of_le (le_of_suc-le-suc l))

-- i is the lowest exactly where none before it passes
pub lowest-is : (p : ℕ → Bool) (i n : ℕ) → i < n → p i ≡ true → eqb (lowest p n) i ≡ not (any p i)
lowest-is p i n l h =
    by_test (any p i)
    (λ e. rw e (ne_eqb (lowest p n) i (λ q. true≢false (sym e ∙ ap (any p) (sym q) ∙ lowest-first p n))))
    (λ e. rw e (eq-eqb (lowest p n) i (lowest_hit p i n l e h)))

-- it is below n exactly where some below n passes
pub lowest-any : (p : ℕ → Bool) (n : ℕ) → ltb (lowest p n) n ≡ any p n
lowest-any p n =
    by_test (any p n)
    (λ e. let (i, l, h) = any_one p n e in
    rw e (by_test (ltb (lowest p n) n) (λ q. q) (λ q. absurd (true≢false (sym h ∙ any_at p (lowest p n) i (lowest-first p n) (omega (arith, ltb-false (lowest p n) n q)))))))
    (λ e. rw (e, lowest_none p n e) (le-ltb n n (omega arith)))

pub lowest_ext : (p q : ℕ → Bool) (n : ℕ) → ((k : ℕ) → k < n → p k ≡ q k) → lowest p n ≡ lowest q n
unfolding lowest
lowest_ext p q zero h = refl
lowest_ext p q (suc n) h =
    let r : lowest p n ≡ lowest q n = lowest_ext p q n (λ k l. h k (omega arith)) in
    let e : p n ≡ q n = h n (omega arith) in
    cc
