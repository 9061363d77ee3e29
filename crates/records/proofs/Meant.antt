-- One pass over the records, with the set of the guest pages seen, meets for each guest page of a range the record that it means.
-- Assumes nothing.
use Prim.Native.Nat.{ℕ, ◌+◌, ◌-◌, ◌/◌, ◌≤◌, ◌<◌}
use mathlib.Core.Path.{◌≡◌, refl, sym, ap, ◌∙◌}
use mathlib.Core.Bool.{Bool, true, false, not, ◌&&◌, ◌||◌, true≢false, false≢true}
use mathlib.Core.List.{List}
use native.Mathlib.Omega.{arith}
use lib.Dec.{ltb, eqb}
use lib.ListN.{length, replicate, length-replicate}
use borrow.Author.Tests.{eqb-true, eq-eqb, ltb-true, lt-ltb, le-leb, not-true, not-false}
use lib.Seq.{set-get_or}
use Rattle.sets.specs.Terms.{within}
use Rattle.sets.specs.Set.{with}
use Rattle.sets.specs.Look.{any, count, lowest}
use Rattle.sets.specs.Pages.{member_in, with_in}
use Rattle.sets.proofs.Bools.{by_test, iff, and_left, and_right, and_off, or_false}
use Rattle.sets.proofs.Looks.{any_next, any_one, any_hit, any_at, all_at, count_none, count_le, count-all, lowest-is, lowest_true, lowest-first, lowest-any}
use Rattle.sets.proofs.PageSets.{member-with_in, member_none_in, count-with_in, length-with_in}
use Rattle.rules.specs.declared.Page.{Page}
use Rattle.rules.specs.Page.{Table, claims, is_mapped, guest_page, meant, is_meant}
use Rattle.records.specs.Passes.{claims_in, is_new, noted}
use Rattle.records.proofs.Tests.{in_range}

pub claimed_in : (slot first number : ℕ) (p : Page) → claims_in slot first number p ≡ true → (first ≤ guest_page p) × (guest_page p - first < number)
claimed_in slot first number p c =
    let w = in_range first number (guest_page p) (and_right (is_mapped p && eqb p.slot slot) (within first number (guest_page p)) c) in
    (w.0, omega (arith, w.0, w.1))

-- a number that is there already
pub with_again : (w d : ℕ) (xs : List ℕ) → member_in w d xs ≡ true → with_in w xs d ≡ xs
unfolding member_in with_in with
with_again w d xs e = rw e (set-get_or xs (d / w) 0)

-- how many of the guest pages of a range a set has
abbrev pub tally : ℕ → List ℕ → ℕ
tally number seen = count (λ d. member_in 64 d seen) number

pub tally_none : (number : ℕ) → tally number (replicate 64 0) ≡ 0
tally_none number = count_none (λ d. member_in 64 d (replicate 64 0)) number (λ d l. member_none_in 64 64 d)

-- which of the guest pages a record claims
claims-is : (slot first number d : ℕ) (p : Page) → d < number → claims slot (first + d) p ≡ (claims_in slot first number p && eqb d (guest_page p - first))
claims-is slot first number d p l = go (is_mapped p && eqb p.slot slot)
  where
    g : ℕ
    g = guest_page p

    same : eqb g (first + d) ≡ (within first number g && eqb d (g - first))
    same = iff (eqb g (first + d)) (within first number g && eqb d (g - first))
        (λ e. let z = eqb-true g (first + d) e in rw (le-leb first g (omega arith), lt-ltb g (first + number) (omega arith)) (eq-eqb d (g - first) (omega arith)))
        (λ e. let w = in_range first number g (and_left (within first number g) (eqb d (g - first)) e) in
        let z = eqb-true d (g - first) (and_right (within first number g) (eqb d (g - first)) e) in
        eq-eqb g (first + d) (omega (arith, w.0, w.1)))

    go : (m : Bool) → (m && eqb g (first + d)) ≡ (m && within first number g && eqb d (g - first))
    go true = same
    go false = refl

module _ (t : Table) (slot first number : ℕ) where
  -- the guest page `first + d` is claimed by a record below i
  abbrev pub claimed : ℕ → ℕ → Bool
  claimed i d = any (λ j. claims slot (first + d) (t.page j)) i

  -- the set holds the guest pages that records below i claim
  pub record Seen (i : ℕ) (seen : List ℕ) : Type 0 where
    pub size : length seen ≡ 64
    pub has : (d : ℕ) → d < number → member_in 64 d seen ≡ claimed i d

  pub seen_none : Seen 0 (replicate 64 0)
  unfolding any
  seen_none = record { size = length-replicate {A = ℕ} 64 0; has = λ d l. member_none_in 64 64 d }

  module _ (n i : ℕ) (seen : List ℕ) (few : number ≤ 4096) (h : i < n) (s : Seen i seen) where
    p : Page
    p = t.page i

    g : ℕ
    g = guest_page p

    -- a record of the range is new exactly where none before it claims its page
    own : claims_in slot first number p ≡ true → (g - first < number) × (first + (g - first) ≡ g)
    unfolding p g
    own c = let w = claimed_in slot first number p c in (w.1, omega (arith, w.0))

    pub new_is : is_new slot first number (t.page i) seen ≡ is_meant t n slot first number i
    unfolding is_new is_meant meant p g
    new_is = by_test (claims_in slot first number p) (λ c. rw (c, lt-ltb i n h, and_right (is_mapped p && eqb p.slot slot) (within first number g) c) (mine c)) (λ c. rw (c, lt-ltb i n h) (sym (none c)))
      where
        mine : claims_in slot first number p ≡ true → not (member_in 64 (g - first) seen) ≡ eqb (lowest (λ j. claims slot g (t.page j)) n) i
        mine c =
            ap not (s.has (g - first) (own c).0 ∙ ap (λ (x : ℕ). any (λ j. claims slot x (t.page j)) i) (own c).1)
            ∙ sym (lowest-is (λ j. claims slot g (t.page j)) i n h (rw (and_left (is_mapped p && eqb p.slot slot) (within first number g) c) (eq-eqb g g refl)))

        none : claims_in slot first number p ≡ false → (within first number g && eqb (lowest (λ j. claims slot g (t.page j)) n) i) ≡ false
        none c =
            by_test (within first number g && eqb (lowest (λ j. claims slot g (t.page j)) n) i)
            (λ e. let z = eqb-true (lowest (λ j. claims slot g (t.page j)) n) i (and_right (within first number g) _ e) in
            let low = lowest_true (λ j. claims slot g (t.page j)) n (omega arith) in
            let m = and_left (is_mapped p && eqb p.slot slot) (eqb g g) (rw z at low) in
            absurd (false≢true (sym c ∙ rw (m, and_left (within first number g) _ e))))
            (λ e. e)

    -- what the record adds
    more : (d : ℕ) → d < number → claimed (i + 1) d ≡ (claimed i d || claims_in slot first number p && eqb d (g - first))
    unfolding p g
    more d l = any_next (λ j. claims slot (first + d) (t.page j)) i ∙ ap (λ (b : Bool). claimed i d || b) (claims-is slot first number d p l)

    swap : (a b : Bool) → (a || b) ≡ (b || true && a)
    swap true true = refl
    swap true false = refl
    swap false true = refl
    swap false false = refl

    seen_new : is_new slot first number (t.page i) seen ≡ true → Seen (i + 1) (noted slot first number (t.page i) seen)
    unfolding noted is_new p g
    seen_new e =
        let c : claims_in slot first number p ≡ true = and_left (claims_in slot first number p) _ e in
        rw e (record {
          size = length-with_in 64 (g - first) seen ∙ s.size;
          has = λ d l. member-with_in 64 d (g - first) seen (omega (arith, (own c).0, s.size)) ∙ rw (s.has d l, more d l, c) (swap (eqb d (g - first)) (claimed i d));
        })

    seen_old : is_new slot first number (t.page i) seen ≡ false → Seen (i + 1) (noted slot first number (t.page i) seen)
    unfolding noted is_new p g
    seen_old e = rw e (record { size = s.size; has = λ d l. s.has d l ∙ (sym (more d l ∙ still d l)) })
      where
        still : (d : ℕ) → d < number → (claimed i d || claims_in slot first number p && eqb d (g - first)) ≡ claimed i d
        still d l =
            by_test (claims_in slot first number p && eqb d (g - first))
            (λ q. let c = and_left (claims_in slot first number p) _ q in
            let z : d ≡ g - first = eqb-true d (g - first) (and_right (claims_in slot first number p) _ q) in
            let m : claimed i d ≡ true = sym (s.has d l) ∙ ap (λ (x : ℕ). member_in 64 x seen) z ∙ not-false _ (and_off (claims_in slot first number p) _ e c) in
            rw m)
            (λ q. rw q (or_false (claimed i d)))

    pub seen_next : (seen' : List ℕ) → seen' ≡ noted slot first number (t.page i) seen → Seen (i + 1) seen'
    seen_next seen' e = rw e (by_test (is_new slot first number (t.page i) seen) seen_new seen_old)

    pub tally_new : is_new slot first number (t.page i) seen ≡ true → tally number (noted slot first number (t.page i) seen) ≡ tally number seen + 1
    unfolding noted is_new p g
    tally_new e =
        let c : claims_in slot first number p ≡ true = and_left (claims_in slot first number p) _ e in
        rw e (count-with_in 64 (g - first) number seen (own c).0 (omega (arith, (own c).0, s.size)) (not-true _ (and_right (claims_in slot first number p) _ e)))

    pub tally_old : is_new slot first number (t.page i) seen ≡ false → tally number (noted slot first number (t.page i) seen) ≡ tally number seen
    unfolding noted
    tally_old e = rw e

    -- a new one was not among those seen
    pub room : is_new slot first number (t.page i) seen ≡ true → tally number seen < number
    room e = omega (arith, tally_new e, count_le (λ d. member_in 64 d (noted slot first number (t.page i) seen)) number)

-- ---- what is meant
module _ (t : Table) (n slot first number : ℕ) where
  -- a record that is meant, and its guest page
  pub meant_at : (i : ℕ) → is_meant t n slot first number i ≡ true
      → (i < n) × (guest_page (t.page i) - first < number) × (meant t n slot (first + (guest_page (t.page i) - first)) ≡ i)
  unfolding is_meant
  meant_at i e =
      let g = guest_page (t.page i) in
      let w = in_range first number g (and_right (ltb i n) (within first number g) (and_left (ltb i n && within first number g) _ e)) in
      let q : first + (g - first) ≡ g = omega (arith, w.0) in
      (ltb-true i n (and_left (ltb i n) (within first number g) (and_left (ltb i n && within first number g) _ e)), omega (arith, w.0, w.1), rw q (eqb-true (meant t n slot g) i (and_right (ltb i n && within first number g) _ e)))

  -- the record of a mapped guest page is meant
  pub is-meant : (d : ℕ) → d < number → meant t n slot (first + d) < n → is_meant t n slot first number (meant t n slot (first + d)) ≡ true
  unfolding is_meant meant
  is-meant d l h =
      let m = lowest (λ j. claims slot (first + d) (t.page j)) n in
      let own : claims slot (first + d) (t.page m) ≡ true = lowest_true (λ j. claims slot (first + d) (t.page j)) n h in
      let e : guest_page (t.page m) ≡ first + d = eqb-true (guest_page (t.page m)) (first + d) (and_right (is_mapped (t.page m) && eqb (t.page m).slot slot) (eqb (guest_page (t.page m)) (first + d)) own) in
      rw (e, lt-ltb m n h, le-leb first (first + d) (omega arith), lt-ltb (first + d) (first + number) (omega arith), eq-eqb m m refl)

  -- a test of the records that are meant is a test of the guest pages, where all are mapped
  pub hits : (test : Page → Bool) → ((d : ℕ) → d < number → meant t n slot (first + d) < n)
      → any (λ j. is_meant t n slot first number j && test (t.page j)) n ≡ any (λ d. test (t.page (meant t n slot (first + d)))) number
  hits test there = iff _ _ forth back
    where
      forth : any (λ j. is_meant t n slot first number j && test (t.page j)) n ≡ true → any (λ d. test (t.page (meant t n slot (first + d)))) number ≡ true
      forth e =
          let (j, l, q) = any_one (λ j. is_meant t n slot first number j && test (t.page j)) n e in
          let m = meant_at j (and_left (is_meant t n slot first number j) (test (t.page j)) q) in
          any_hit (λ d. test (t.page (meant t n slot (first + d)))) (guest_page (t.page j) - first) number m.1 (rw m.2 (and_right (is_meant t n slot first number j) (test (t.page j)) q))

      back : any (λ d. test (t.page (meant t n slot (first + d)))) number ≡ true → any (λ j. is_meant t n slot first number j && test (t.page j)) n ≡ true
      back e =
          let (d, l, q) = any_one (λ d. test (t.page (meant t n slot (first + d)))) number e in
          any_hit (λ j. is_meant t n slot first number j && test (t.page j)) (meant t n slot (first + d)) n (there d l) (rw (is-meant d l (there d l), q))

  -- where as many were seen as the range has, each is claimed by a record passed, and no record to come is meant
  module _ (i : ℕ) (seen : List ℕ) (s : Seen t slot first number i seen) (e : tally number seen ≡ number) where
    pub all_claimed : (d : ℕ) → d < number → claimed t slot first number i d ≡ true
    all_claimed d l =
        sym (s.has d l) ∙ all_at (λ d. member_in 64 d seen) number d (sym (count-all (λ d. member_in 64 d seen) number) ∙ eq-eqb (tally number seen) number e) l

    pub none_left : (j : ℕ) → i ≤ j → is_meant t n slot first number j ≡ false
    unfolding meant
    none_left j l =
        by_test (is_meant t n slot first number j)
        (λ m. let w = meant_at j m in
        let d = guest_page (t.page j) - first in
        let (k, b, q) = any_one (λ k. claims slot (first + d) (t.page k)) i (all_claimed d w.1) in
        absurd (true≢false (sym q ∙ any_at (λ k. claims slot (first + d) (t.page k)) (lowest (λ k. claims slot (first + d) (t.page k)) n) k (lowest-first (λ k. claims slot (first + d) (t.page k)) n) (omega (arith, w.2)))))
        (λ m. m)

  -- all are mapped exactly where as many as the range has were seen
  pub mapped-is : (d : ℕ) → ltb (meant t n slot (first + d)) n ≡ claimed t slot first number n d
  unfolding meant
  mapped-is d = lowest-any (λ j. claims slot (first + d) (t.page j)) n

  -- some guest page is mapped exactly where some record claims one of them
  pub any_claimed_is : any (λ j. claims_in slot first number (t.page j)) n ≡ any (λ d. ltb (meant t n slot (first + d)) n) number
  any_claimed_is = iff _ _ forth back
    where
      forth : any (λ j. claims_in slot first number (t.page j)) n ≡ true → any (λ d. ltb (meant t n slot (first + d)) n) number ≡ true
      forth e =
          let (j, l, c) = any_one (λ j. claims_in slot first number (t.page j)) n e in
          let d = guest_page (t.page j) - first in
          let w = claimed_in slot first number (t.page j) c in
          let own : claims slot (first + d) (t.page j) ≡ true = claims-is slot first number d (t.page j) w.1 ∙ rw (c, eq-eqb d d refl) in
          any_hit (λ d. ltb (meant t n slot (first + d)) n) d number w.1 (mapped-is d ∙ any_hit (λ j. claims slot (first + d) (t.page j)) j n l own)

      back : any (λ d. ltb (meant t n slot (first + d)) n) number ≡ true → any (λ j. claims_in slot first number (t.page j)) n ≡ true
      back e =
          let (d, l, q) = any_one (λ d. ltb (meant t n slot (first + d)) n) number e in
          let (j, m, c) = any_one (λ j. claims slot (first + d) (t.page j)) n (sym (mapped-is d) ∙ q) in
          any_hit (λ j. claims_in slot first number (t.page j)) j n m (and_left (claims_in slot first number (t.page j)) _ (sym (claims-is slot first number d (t.page j) l) ∙ c))
