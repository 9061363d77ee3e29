-- The laws of sets of numbers in words of w digits, from those of one word.
-- Assumes nothing.
use mathlib.Core.Path.{◌≡◌, refl, sym, ap, ap₂, ◌∙◌}
use mathlib.Core.Logic.{◌≢◌}
use mathlib.Core.Bool.{false, cond, not, ◌&&◌, ◌||◌}
use mathlib.Core.List.{List, [], ◌∷◌}
use Prim.Native.Nat.{ℕ, suc, ◌+◌, ◌*◌, ◌/◌, ◌%◌, ◌^◌, ◌<◌}
use native.Mathlib.Nat.{div-add-mod', add_comm, suc-mul, zero-mul, div-eq_of_lt, mod-eq_of_lt, add-div_left, add-mod_left}
use native.Mathlib.Omega.{arith}
use native.Mathlib.Numerals.{add-one}
use native.Mathlib.Decide.{ℕ_discrete, dec_lt}
use lib.Dec.{eqb}
use lib.ListN.{length, get_or, set, replicate, get_or-replicate, length-replicate, length-set, get_or-eq_default}
use lib.Arith.{digits_lt, digits_div, digits_mod}
use lib.Seq.{get_or-set_same, get_or-set_other, ext_get_or}
use borrow.Author.Tests.{eqb-true, eqb-false, eq-eqb, ne_eqb}
use Rattle.sets.specs.Look.{count}
use Rattle.sets.specs.Set.{member, with, without}
use Rattle.sets.proofs.Laws.{member-with, member-without, member_none, ext, count_ones}
use Rattle.sets.proofs.Looks.{count_same, count_add, count_one_more}
use Rattle.sets.proofs.Bools.{by_test}
use Rattle.sets.specs.Pages.{member_in, with_in, without_in, ones_in}

-- numbers of one word are told apart by their digits
eqb_digit : (w j d : ℕ) → j / w ≡ d / w → eqb (j % w) (d % w) ≡ eqb j d
eqb_digit w j d e = go (ℕ_discrete j d)
  where
    whole : j % w ≡ d % w → j ≡ d
    whole m = sym (div-add-mod' j w) ∙ (rw (e, m) (div-add-mod' d w))

    go : Dec (j ≡ d) → eqb (j % w) (d % w) ≡ eqb j d
    go (yes p) = eq-eqb (j % w) (d % w) (ap (λ (x : ℕ). x % w) p) ∙ sym (eq-eqb j d p)
    go (no n) = ne_eqb (j % w) (d % w) (λ m. n (whole m)) ∙ sym (ne_eqb j d n)

eqb-word : (w j d : ℕ) → j / w ≢ d / w → eqb j d ≡ false
eqb-word w j d n = ne_eqb j d (λ e. n (ap (λ (x : ℕ). x / w) e))

-- after a store into one word
member-set : (w j d v : ℕ) (xs : List ℕ) → d / w < length xs
    → member_in w j (set xs (d / w) v) ≡ cond (eqb (j / w) (d / w)) (member (j % w) v) (member_in w j xs)
unfolding member_in
member-set w j d v xs h =
    by_test (eqb (j / w) (d / w))
    (λ e. rw (e, eqb-true (j / w) (d / w) e, get_or-set_same xs (d / w) v 0 h))
    (λ e. rw (e, get_or-set_other xs (d / w) (j / w) v 0 (eqb-false (j / w) (d / w) e)))

pub member-with_in : (w j d : ℕ) (xs : List ℕ) → d / w < length xs → member_in w j (with_in w xs d) ≡ (eqb j d || member_in w j xs)
unfolding with_in member_in
member-with_in w j d xs h =
    member-set w j d (with (get_or xs (d / w) 0) (d % w)) xs h
    ∙ by_test (eqb (j / w) (d / w))
    (λ e. rw (e, member-with (j % w) (get_or xs (d / w) 0) (d % w), eqb_digit w j d (eqb-true (j / w) (d / w) e), eqb-true (j / w) (d / w) e))
    (λ e. rw (e, eqb-word w j d (eqb-false (j / w) (d / w) e)))

pub member-without_in : (w j d : ℕ) (xs : List ℕ) → d / w < length xs → member_in w j (without_in w xs d) ≡ (not (eqb j d) && member_in w j xs)
unfolding without_in member_in
member-without_in w j d xs h =
    member-set w j d (without (get_or xs (d / w) 0) (d % w)) xs h
    ∙ by_test (eqb (j / w) (d / w))
    (λ e. rw (e, member-without (j % w) (get_or xs (d / w) 0) (d % w), eqb_digit w j d (eqb-true (j / w) (d / w) e), eqb-true (j / w) (d / w) e))
    (λ e. rw (e, eqb-word w j d (eqb-false (j / w) (d / w) e)))

get_or-zeros : (n i : ℕ) → get_or {A = ℕ} (replicate n 0) i 0 ≡ 0
get_or-zeros n i = go (dec_lt i n)
  where
    go : Dec (i < n) → get_or {A = ℕ} (replicate n 0) i 0 ≡ 0
    go (yes h) = get_or-replicate n i 0 0 h
    go (no h) = get_or-eq_default (replicate n 0) 0 {n = i} (omega (arith, length-replicate {A = ℕ} n 0))

-- no number is in the words that are all 0
pub member_none_in : (w n d : ℕ) → member_in w d (replicate n 0) ≡ false
unfolding member_in
member_none_in w n d = rw (get_or-zeros n (d / w), member_none (d % w))

-- two lists of words with the same members are equal
pub ext_in : (w n : ℕ) (xs ys : List ℕ) → length xs ≡ n → length ys ≡ n → ((i : ℕ) → i < n → get_or xs i 0 < 2 ^ w) → ((i : ℕ) → i < n → get_or ys i 0 < 2 ^ w)
    → ((d : ℕ) → d < n * w → member_in w d xs ≡ member_in w d ys) → xs ≡ ys
unfolding member_in
ext_in w n xs ys lx ly hx hy h =
    ext_get_or 0 xs ys (lx ∙ sym ly) (λ i l. let m : i < n = omega (arith, lx) in ext w (get_or xs i 0) (get_or ys i 0) (hx i m) (hy i m) (λ k o.
    let e = h (i * w + k) (digits_lt m o) in
    rw (digits_div i o, digits_mod i o) at e))

-- the ones are the members
pub count_in : (w : ℕ) (xs : List ℕ) → 0 < w → ((i : ℕ) → i < length xs → get_or xs i 0 < 2 ^ w) → ones_in xs ≡ count (λ d. member_in w d xs) (length xs * w)
unfolding ones_in count member_in
count_in w [] p h = rw (zero-mul w) refl
count_in w (x ∷ xs) p h =
    ap₂ ◌+◌ (count_ones w x (h 0 (omega arith)) ∙ count_same _ _ w low) (count_in w xs p (λ i l. h (suc i) (omega arith)) ∙ count_same _ _ (length xs * w) high)
    ∙ sym (count_add (λ d. member_in w d (x ∷ xs)) w (length xs * w))
    ∙ ap (count (λ d. member_in w d (x ∷ xs))) (add_comm w (length xs * w) ∙ sym (suc-mul (length xs) w))
  where
    low : (k : ℕ) → k < w → member k x ≡ member_in w k (x ∷ xs)
    low k l = rw (div-eq_of_lt l, mod-eq_of_lt l) refl

    high : (k : ℕ) → k < length xs * w → member_in w k xs ≡ member_in w (w + k) (x ∷ xs)
    high k l = rw (add-div_left k p, add-mod_left w k, add-one (k / w)) refl

-- a number that was not in comes in: there is one more
pub count-with_in : (w d n : ℕ) (xs : List ℕ) → d < n → d / w < length xs → member_in w d xs ≡ false
    → count (λ k. member_in w k (with_in w xs d)) n ≡ count (λ k. member_in w k xs) n + 1
count-with_in w d n xs l h e = count_one_more (λ k. member_in w k xs) (λ k. member_in w k (with_in w xs d)) d n l e (λ k b. member-with_in w k d xs h)

pub length-with_in : (w d : ℕ) (xs : List ℕ) → length (with_in w xs d) ≡ length xs
unfolding with_in
length-with_in w d xs = length-set xs (d / w) _
