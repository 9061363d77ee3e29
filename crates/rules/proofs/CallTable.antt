-- The rule of the constant table of calls, proved once over the whole table: each row's digits are those of the definitions.
-- Assumes nothing.
use Prim.Native.Nat.{ℕ, zero, suc, min, ◌+◌, ◌-◌, ◌*◌, ◌/◌, ◌%◌, ◌^◌, ◌≤◌, ◌<◌}
use mathlib.Core.Bool.{Bool, true, false, cond, not, ◌&&◌, true≢false}
use mathlib.Core.List.{List, [], ◌∷◌, map}
use mathlib.Core.Path.{◌≡◌, refl, sym, ◌∙◌, ap, subst}
use native.Mathlib.Omega.{arith}
use lib.Dec.{leb, ltb, eqb}
use lib.ListN.{length, get_or, length-map, get_or-eq_default}
use borrow.Author.Tests.{eqb-true, ne_eqb, leb-true, ltb-true, ltb-false}
use Rattle.sets.specs.Terms.{one_of, any_in}
use Rattle.sets.specs.Look.{all}
use Rattle.sets.proofs.Bools.{by_test, and_left, and_right}
use Rattle.sets.proofs.Looks.{all_at}
use Rattle.rules.specs.declared.Call.{Call}
use Rattle.rules.specs.declared.Role.{Role}
use Rattle.rules.specs.Calls.{names, Entry, Phases, no_phase, I, R, IR, code, allows, entry, find, calls, entry_of}
use Rattle.rules.specs.Tables.{phase_set, role_at, call_digit, row_of}

-- the rows of src/tables.rt
unfoldable pub rows : List ℕ
rows =
    0x0000_0000 ∷ 0x1036_0000 ∷ 0x1046_0000 ∷ 0x1000_0000 ∷ 0x1000_0000 ∷ 0x1054_0000 ∷ 0x1210_0000 ∷ 0x0000_0000 ∷ 0x1610_0000 ∷ 0x1218_9000
    ∷ 0x1614_6000 ∷ 0x1213_4768 ∷ 0x1414_7680 ∷ 0x0000_0000 ∷ 0x1212_4000 ∷ 0x1412_0000 ∷ 0x1410_0000 ∷ 0x1418_9000 ∷ 0x1418_9000 ∷ 0x1418_9000
    ∷ 0 ∷ 0 ∷ 0 ∷ 0 ∷ 0 ∷ 0 ∷ 0 ∷ 0 ∷ 0 ∷ 0 ∷ 0 ∷ 0 ∷ 0x1000_0000 ∷ 0x10ab_0000 ∷ []

rows_right : all (λ n. eqb (get_or rows n 0) (row_of n)) 34 ≡ true
unfolding all rows row_of call_digit entry_of
rows_right = refl

pub row_is : (n : ℕ) → n < 34 → get_or rows n 0 ≡ row_of n
row_is n h = eqb-true _ _ (all_at (λ n. eqb (get_or rows n 0) (row_of n)) 34 n rows_right h)

rows_small : all (λ n. ltb (get_or rows n 0) 4294967296) 34 ≡ true
unfolding all rows
rows_small = refl

pub row_small : (n : ℕ) → n < 34 → get_or rows n 0 < 4294967296
row_small n h = ltb-true _ _ (all_at (λ n. ltb (get_or rows n 0) 4294967296) 34 n rows_small h)

-- no call has a number past the table
below : List Entry → Bool
below [] = true
below (e ∷ es) = ltb e.number 34 && below es

all_below : below calls ≡ true
unfolding below
all_below = refl

pub past_entry : (n : ℕ) → 34 ≤ n → entry_of n ≡ entry 0 [] no_phase
unfolding entry_of below
past_entry n h = go calls all_below
  where
    go : (es : List Entry) → below es ≡ true → find n es ≡ entry 0 [] no_phase
    go [] f = refl
    go (e ∷ es) f =
        let l = ltb-true e.number 34 (and_left (ltb e.number 34) (below es) f) in
        rw (ne_eqb n e.number (omega arith)) (go es (and_right (ltb e.number 34) (below es) f))

pub past_digit : (n : ℕ) → 34 ≤ n → (i : ℕ) → call_digit n i ≡ 0
unfolding call_digit
past_digit n h i = rw (past_entry n h) (zeros i)
  where
    zeros : (i : ℕ) → get_or {A = ℕ} (0 ∷ 0 ∷ []) i 0 ≡ 0
    zeros zero = refl
    zeros (suc zero) = refl
    zeros (suc (suc i)) = refl

pub past_row : (n : ℕ) → 34 ≤ n → row_of n ≡ 0
unfolding row_of
past_row n h = rw (past_digit n h 0, past_digit n h 1, past_digit n h 2, past_digit n h 3, past_digit n h 4, past_digit n h 5, past_digit n h 6, past_digit n h 7)

-- a row's digits
abbrev digit_of : ℕ → ℕ → ℕ
digit_of x i = x / 2 ^ (4 * (7 - i)) % 16

digits_right : all (λ n. all (λ i. eqb (digit_of (row_of n) i) (call_digit n i)) 8) 34 ≡ true
unfolding all row_of call_digit entry_of
digits_right = refl

no-digits : all (λ i. eqb (digit_of 0 i) 0) 8 ≡ true
unfolding all
no-digits = refl

pub row_digit : (n i : ℕ) → i < 8 → row_of n / 2 ^ (4 * (7 - i)) % 16 ≡ call_digit n i
row_digit n i l =
    by_test (ltb n 34) (λ e. eqb-true _ _ (all_at (λ i. eqb (digit_of (row_of n) i) (call_digit n i)) 8 i (all_at (λ n. all (λ i. eqb (digit_of (row_of n) i) (call_digit n i)) 8) 34 n digits_right (ltb-true n 34 e)) l))
    (λ e. let h = ltb-false n 34 e in rw (past_row n h, past_digit n h i) (eqb-true _ _ (all_at (λ i. eqb (digit_of 0 i) 0) 8 i no-digits l)))

-- what the first digit says, and the second
pub known_digit : (n : ℕ) → eqb (call_digit n 0) 0 ≡ eqb (entry_of n).number 0
unfolding call_digit
known_digit n = go (entry_of n).number
  where
    go : (k : ℕ) → eqb (min 1 k) 0 ≡ eqb k 0
    go zero = refl
    go (suc k) = rw (ne_eqb (min 1 (suc k)) 0 (λ e. omega arith), ne_eqb (suc k) 0 (λ e. omega arith))

abbrev same : Bool → Bool → Bool
same a b = cond a b (not b)

same_true : (a b : Bool) → same a b ≡ true → a ≡ b
same_true true true e = refl
same_true true false e = sym e
same_true false true e = e
same_true false false e = refl

pub phase_digit : (n p : ℕ) → p < 4 → eqb (call_digit n 1 / 2 ^ p % 2) 1 ≡ allows (entry_of n).phases p
unfolding call_digit all
phase_digit n p l = same_true _ _ (all_at (agrees (entry_of n).phases) 4 p (go (entry_of n).phases) l)
  where
    agrees : Phases → ℕ → Bool
    agrees x p = same (eqb (phase_set x / 2 ^ p % 2) 1) (allows x p)

    go : (x : Phases) → all (agrees x) 4 ≡ true
    go no_phase = refl
    go I = refl
    go R = refl
    go IR = refl

pub unlawful_past : (n p : ℕ) → 4 ≤ p → allows (entry_of n).phases p ≡ false
unlawful_past n p h = go (entry_of n).phases
  where
    go : (x : Phases) → allows x p ≡ false
    go no_phase = refl
    go I = ne_eqb p 1 (omega arith)
    go R = ne_eqb p 2 (omega arith)
    go IR = rw (ne_eqb p 1 (omega arith), ne_eqb p 2 (omega arith))

-- argument i is digit i + 2
pub role_digit : (n i : ℕ) → call_digit n (i + 2) ≡ role_at n i
unfolding call_digit role_at
role_digit n i = ap (λ (k : ℕ). call_digit n k) (add_two i)
  where
    add_two : (i : ℕ) → i + 2 ≡ suc (suc i)
    add_two i = omega arith

-- ---- what holds of every row of the table of calls, and of none
unfoldable pub each : (Entry → Bool) → List Entry → Bool
each p [] = true
each p (e ∷ es) = p e && each p es

pub of_table : (p : Entry → Bool) → p (entry 0 [] no_phase) ≡ true → each p calls ≡ true → (n : ℕ) → p (entry_of n) ≡ true
unfolding entry_of each
of_table p h f n = go calls f
  where
    go : (es : List Entry) → each p es ≡ true → p (find n es) ≡ true
    go [] f = h
    go (e ∷ es) f = by_test (eqb n e.number) (λ q. rw q (and_left (p e) (each p es) f)) (λ q. rw q (go es (and_right (p e) (each p es) f)))

-- no call names more than six arguments
pub few_named : (n : ℕ) → length (entry_of n).arguments ≤ 6
unfolding each
few_named n = leb-true (length (entry_of n).arguments) 6 (of_table (λ e. leb (length e.arguments) 6) refl refl n)

-- the row names the role
abbrev pub is_named : Role → Entry → Bool
is_named r e = any_in (λ x. eqb (code r) (code x)) e.arguments

-- a call that names the one role names the other
abbrev pub both : Role → Role → Entry → Bool
both r s e = cond (is_named r e) (is_named s e) true

pub with_it : (r s : Role) → each (both r s) calls ≡ true → both r s (entry 0 [] no_phase) ≡ true → (c : Call) → names r c ≡ true → names s c ≡ true
unfolding names
with_it r s f h c e = let g = of_table (both r s) h f c.number in subst (λ (b : Bool). cond b (names s c) true ≡ true) e g

-- what a call of a known number names
pub named_at : (n : ℕ) (r : Role) (c : Call) → c.number ≡ n → names r c ≡ is_named r (entry_of n)
unfolding names
named_at n r c e = ap (λ (k : ℕ). is_named r (entry_of k)) e

-- a call that names the role is one of those that do
pub among : (r : Role) (ns : List ℕ) → each (λ e. cond (is_named r e) (any_in (eqb e.number) ns) true) calls ≡ true → (c : Call) → names r c ≡ true → any_in (eqb c.number) ns ≡ true
unfolding names entry_of each one_of
among r ns f c n = go calls f n
  where
    go : (es : List Entry) → each (λ e. cond (is_named r e) (any_in (eqb e.number) ns) true) es ≡ true → is_named r (find c.number es) ≡ true → any_in (eqb c.number) ns ≡ true
    go [] f n = absurd (true≢false (sym n))
    go (e ∷ es) f n =
        by_test (eqb c.number e.number)
        (λ q. let here : is_named r e ≡ true = subst (λ (b : Bool). is_named r (cond b e (find c.number es)) ≡ true) q n in
        let g : cond (is_named r e) (any_in (eqb e.number) ns) true ≡ true = and_left _ (each (λ e. cond (is_named r e) (any_in (eqb e.number) ns) true) es) f in
        rw (eqb-true c.number e.number q) (subst (λ (b : Bool). cond b (any_in (eqb e.number) ns) true ≡ true) here g))
        (λ q. go es (and_right (cond (is_named r e) (any_in (eqb e.number) ns) true) _ f) (subst (λ (b : Bool). is_named r (cond b e (find c.number es)) ≡ true) q n))

-- a call that names the role is not one that does not
pub not_that : (n : ℕ) (r : Role) (c : Call) → is_named r (entry_of n) ≡ false → names r c ≡ true → eqb c.number n ≡ false
unfolding names
not_that n r c h e = by_test (eqb c.number n) (λ q. absurd (true≢false (sym e ∙ ap (λ (k : ℕ). is_named r (entry_of k)) (eqb-true c.number n q) ∙ h))) (λ q. q)

pub no_role : (n i : ℕ) → 6 ≤ i → role_at n i ≡ 0
unfolding role_at
no_role n i h = get_or-eq_default (map code (entry_of n).arguments) 0 {n = i} (omega (arith, length-map (entry_of n).arguments code, few_named n))
