-- What a record says of its holder: by kind and slot, and by the guest page that it claims.
-- Assumes nothing.
use Prim.Native.Nat.{ℕ, ◌%◌, ◌<◌}
use mathlib.Core.Path.{◌≡◌, refl}
use mathlib.Core.Logic.{◌⊎◌, inl, inr, ⊎_elim}
use mathlib.Core.Bool.{Bool, true, false, cond, ◌&&◌, false≢true}
use native.Mathlib.Omega.{arith}
use lib.Dec.{ltb, eqb}
use borrow.Author.Tests.{eqb-true, eq-eqb}
use Rattle.sets.specs.Terms.{within}
use Rattle.sets.proofs.Bools.{and_left, and_right, or_cases}
use Rattle.rules.specs.declared.Page.{Page}
use Rattle.rules.specs.Page.{guest_page, guest_word, is_given, is_mapped, claims}
use Rattle.rules.specs.Fence.{Tracker, done}
use Rattle.history.specs.Demand3.{Held, nobody, holds, maps, counts_free, is_held_by, is_given_at}

abbrev pub held_of : Page → Held
held_of p = cond (is_mapped p) (maps p.slot (guest_page p)) (cond (is_given p) (holds p.slot) nobody)

abbrev pub held_at : ℕ → (ℕ → Page) → ℕ → Held
held_at pages page i = cond (ltb i pages) (held_of (page i)) nobody

pub held_0 : (p : Page) → p.kind ≡ 0 → nobody ≡ held_of p
held_0 p e = rw e

-- a page that counts as free is of kind 1 or 2
free_kind : (g : Tracker) (p : Page) → counts_free g p ≡ true → (p.kind ≡ 1) ⊎ (p.kind ≡ 2)
free_kind g p e = go (or_cases (eqb p.kind 2) (eqb p.kind 1 && done g p.version) e)
  where
    go : (eqb p.kind 2 ≡ true) ⊎ ((eqb p.kind 1 && done g p.version) ≡ true) → (p.kind ≡ 1) ⊎ (p.kind ≡ 2)
    go (inl u) = inr (eqb-true p.kind 2 u)
    go (inr u) = inl (eqb-true p.kind 1 (and_left (eqb p.kind 1) (done g p.version) u))

pub held_free : (g : Tracker) (p : Page) → counts_free g p ≡ true → nobody ≡ held_of p
held_free g p e = ⊎_elim (λ u. rw u) (λ u. rw u) (free_kind g p e)

pub free_unmapped : (g : Tracker) (p : Page) → counts_free g p ≡ true → is_mapped p ≡ false
free_unmapped g p e = ⊎_elim (λ u. rw u) (λ u. rw u) (free_kind g p e)

pub mapped-given : (p : Page) → is_mapped p ≡ true → is_given p ≡ true
mapped-given p e = go (or_cases (eqb p.kind 7) (eqb p.kind 8) e)
  where
    go : (eqb p.kind 7 ≡ true) ⊎ (eqb p.kind 8 ≡ true) → is_given p ≡ true
    go (inl u) = rw (eqb-true p.kind 7 u)
    go (inr u) = rw (eqb-true p.kind 8 u)

-- the slot k holds it, by its kind and slot
pub holder_is : (k : ℕ) (p : Page) → is_held_by k (held_of p) ≡ (is_given p && eqb p.slot k)
holder_is k p = go (is_mapped p) (is_given p) (mapped-given p)
  where
    go : (m v : Bool) → (m ≡ true → v ≡ true) → is_held_by k (cond m (maps p.slot (guest_page p)) (cond v (holds p.slot) nobody)) ≡ (v && eqb p.slot k)
    go true true f = refl
    go true false f = absurd (false≢true (f refl))
    go false true f = refl
    go false false f = refl

pub mapped_in : (k g n : ℕ) (p : Page) → is_given_at k g n (held_of p) ≡ (is_mapped p && (eqb p.slot k && within g n (guest_page p)))
mapped_in k g n p = go (is_mapped p) (is_given p)
  where
    go : (m v : Bool) → is_given_at k g n (cond m (maps p.slot (guest_page p)) (cond v (holds p.slot) nobody)) ≡ (m && (eqb p.slot k && within g n (guest_page p)))
    go true v = refl
    go false true = refl
    go false false = refl

-- a claim, and what is held
pub record Claim (k g : ℕ) (p : Page) : Type 0 where
  pub claim_mapped : is_mapped p ≡ true
  pub slot_is : p.slot ≡ k
  pub guest_is : guest_page p ≡ g

pub claim : (k g : ℕ) (p : Page) → claims k g p ≡ true → Claim k g p
claim k g p e =
    let ab = and_left (is_mapped p && eqb p.slot k) (eqb (guest_page p) g) e in
    record {
      claim_mapped = and_left (is_mapped p) (eqb p.slot k) ab;
      slot_is = eqb-true p.slot k (and_right (is_mapped p) (eqb p.slot k) ab);
      guest_is = eqb-true (guest_page p) g (and_right (is_mapped p && eqb p.slot k) (eqb (guest_page p) g) e);
    }

pub claims-held : (k g : ℕ) (p : Page) → claims k g p ≡ true → held_of p ≡ maps k g
claims-held k g p e = let c = claim k g p e in rw (c.claim_mapped, c.slot_is, c.guest_is)

pub held-claims : (k g : ℕ) (p : Page) → held_of p ≡ maps k g → claims k g p ≡ true
held-claims k g p = go (is_mapped p) (is_given p)
  where
    go : (m v : Bool) → cond m (maps p.slot (guest_page p)) (cond v (holds p.slot) nobody) ≡ maps k g → (m && eqb p.slot k && eqb (guest_page p) g) ≡ true
    go true v e =
        let x : p.slot ≡ k = cc in
        let y : guest_page p ≡ g = cc in
        rw (eq-eqb p.slot k x, eq-eqb (guest_page p) g y)
    go false true e = let z : ◌≡◌ {A = ℕ} 0 1 = cc in absurd (omega arith)
    go false false e = let z : ◌≡◌ {A = ℕ} 0 1 = cc in absurd (omega arith)

-- the guest page of a word that is written
pub word-page : (g : ℕ) (b : Bool) → g < 1048576 → guest_word g b % 1048576 ≡ g
word-page g true e = omega arith
word-page g false e = omega arith
