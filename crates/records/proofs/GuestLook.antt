-- The look over a guest range, turn by turn: what is known of the records passed, and what it comes to at the end.
-- Assumes nothing.
use Prim.Native.Nat.{ℕ, ◌+◌, ◌-◌, ◌≤◌, ◌<◌}
use mathlib.Core.Path.{◌≡◌, refl, sym, ap, ◌∙◌}
use mathlib.Core.Bool.{Bool, true, false, not, ◌&&◌, ◌||◌, false≢true}
use mathlib.Core.List.{List}
use native.Mathlib.Omega.{arith}
use lib.Dec.{ltb, eqb}
use lib.ListN.{replicate}
use borrow.Author.Tests.{eq-eqb, ne_eqb, lt-ltb, ltb-true, ltb-false, not-true}
use Rattle.sets.specs.Look.{any}
use Rattle.sets.specs.Pages.{member_in}
use Rattle.sets.proofs.Bools.{by_test, iff, or_false}
use Rattle.sets.proofs.Looks.{any_next, any_one, any_hit, any_ext, not-all, count-all}
use Rattle.rules.specs.declared.Page.{Page}
use Rattle.rules.specs.Page.{Table, claims, guest_page, meant, is_meant, is_cut}
use Rattle.rules.specs.Fence.{Tracker, done}
use Rattle.std.specs.Prelude.{Some, None}
use Rattle.records.specs.Passes.{is_new, noted, guest_look}
use Rattle.records.proofs.Meant.{Seen, claimed, seen_none, new_is, seen_next, tally, tally_none, tally_new, tally_old, room, meant_at, all_claimed, none_left, hits, mapped-is}

-- a look may end where nothing to come passes
any_upto : (p : ℕ → Bool) (i n : ℕ) → i ≤ n → ((j : ℕ) → i ≤ j → p j ≡ false) → any p i ≡ any p n
any_upto p i n h off = iff _ _
    (λ e. let (j, l, q) = any_one p i e in any_hit p j n (omega arith) q)
    (λ e. let (j, l, q) = any_one p n e in by_test (ltb j i) (λ y. any_hit p j i (ltb-true j i y) q) (λ y. absurd (false≢true (sym (off j (ltb-false j i y)) ∙ q))))

module _ (t : Table) (n slot first number kind : ℕ) (fence : Tracker) where
  -- some record below i that is meant passes the test
  abbrev pub met : (Page → Bool) → ℕ → Bool
  met test i = any (λ j. is_meant t n slot first number j && test (t.page j)) i

  abbrev wrong : Page → Bool
  wrong p = not (eqb p.kind kind)

  abbrev undone_of : Page → Bool
  undone_of p = not (done fence p.version)

  pub record Looked (i : ℕ) (seen : List ℕ) (missing : ℕ) (undone cut : Bool) : Type 0 where
    pub upto : i ≤ n
    pub pages : Seen t slot first number i seen
    pub missing_is : missing + tally number seen ≡ number
    pub kinds : met wrong i ≡ false
    pub undone_is : undone ≡ met undone_of i
    pub cut_is : cut ≡ met (is_cut first number) i

  pub looked_none : Looked 0 (replicate 64 0) number false false
  unfolding any
  looked_none = record {
    upto = omega arith;
    pages = seen_none t slot first number;
    missing_is = omega (arith, tally_none number);
    kinds = refl;
    undone_is = refl;
    cut_is = refl;
  }

  -- the test of the record at hand, where it is meant and where it is not
  met_on : (test : Page → Bool) (i : ℕ) → is_meant t n slot first number i ≡ true → met test (i + 1) ≡ (met test i || test (t.page i))
  met_on test i m = any_next (λ j. is_meant t n slot first number j && test (t.page j)) i ∙ rw m

  met_off : (test : Page → Bool) (i : ℕ) → is_meant t n slot first number i ≡ false → met test (i + 1) ≡ met test i
  met_off test i m = any_next (λ j. is_meant t n slot first number j && test (t.page j)) i ∙ rw m (or_false (met test i))

  module _ (few : number ≤ 4096) (i : ℕ) (seen : List ℕ) (missing : ℕ) (undone cut : Bool) (h : i < n) (s : Looked i seen missing undone cut) where
    is : is_new slot first number (t.page i) seen ≡ is_meant t n slot first number i
    is = new_is t slot first number n i seen few h s.pages

    looked_first : is_new slot first number (t.page i) seen ≡ true → eqb (t.page i).kind kind ≡ true
        → Looked (i + 1) (noted slot first number (t.page i) seen) (missing - 1) (undone || not (done fence (t.page i).version)) (cut || is_cut first number (t.page i))
    looked_first e k =
        let m = sym is ∙ e in record {
          upto = omega arith;
          pages = seen_next t slot first number n i seen few h s.pages _ refl;
          missing_is = omega (arith, s.missing_is, tally_new t slot first number n i seen few h s.pages e, room t slot first number n i seen few h s.pages e);
          kinds = met_on wrong i m ∙ rw (s.kinds, k);
          undone_is = rw (met_on undone_of i m, s.undone_is);
          cut_is = rw (met_on (is_cut first number) i m, s.cut_is);
        }

    looked_other : is_new slot first number (t.page i) seen ≡ false → Looked (i + 1) (noted slot first number (t.page i) seen) missing undone cut
    looked_other e =
        let m = sym is ∙ e in record {
          upto = omega arith;
          pages = seen_next t slot first number n i seen few h s.pages _ refl;
          missing_is = omega (arith, s.missing_is, tally_old t slot first number n i seen few h s.pages e);
          kinds = met_off wrong i m ∙ s.kinds;
          undone_is = s.undone_is ∙ sym (met_off undone_of i m);
          cut_is = s.cut_is ∙ sym (met_off (is_cut first number) i m);
        }

    -- a record of another kind: the range is not ready
    looked_bad : is_new slot first number (t.page i) seen ≡ true → eqb (t.page i).kind kind ≡ false → None ≡ guest_look t n slot first number kind fence
    unfolding guest_look
    looked_bad e k =
        let m = meant_at t n slot first number i (sym is ∙ e) in
        rw (any_hit (λ d. not (ltb (meant t n slot (first + d)) n && eqb (t.page (meant t n slot (first + d))).kind kind)) (guest_page (t.page i) - first) number m.1 (rw (m.2, k, lt-ltb i n h)))

    -- the same by the code's names: p is the record that was read
    module _ (p : Page) (seen' : List ℕ) (read : p ≡ t.page i) (notes : seen' ≡ noted slot first number p seen) where
      pub turn_first : (missing' : ℕ) (undone' cut' : Bool) → is_new slot first number p seen ≡ true → p.kind ≡ kind → missing' ≡ missing - 1
          → undone' ≡ (undone || not (done fence p.version)) → cut' ≡ (cut || is_cut first number p) → Looked (i + 1) seen' missing' undone' cut'
      turn_first missing' undone' cut' e k a b c =
          rw (notes, a, b, c, read) (looked_first (rw read at e) (eq-eqb (t.page i).kind kind (rw read at k)))

      pub turn_other : (missing' : ℕ) (undone' cut' : Bool) → is_new slot first number p seen ≡ false → missing' ≡ missing → undone' ≡ undone → cut' ≡ cut
          → Looked (i + 1) seen' missing' undone' cut'
      turn_other missing' undone' cut' e a b c = rw (notes, a, b, c, read) (looked_other (rw read at e))

      pub turn_room : is_new slot first number p seen ≡ true → 0 < missing
      turn_room e = omega (arith, s.missing_is, room t slot first number n i seen few h s.pages (rw read at e))

      pub turn_bad : is_new slot first number p seen ≡ true → (p.kind ≡ kind → ⊥) → None ≡ guest_look t n slot first number kind fence
      turn_bad e k = looked_bad (rw read at e) (ne_eqb (t.page i).kind kind (λ q. k (ap (λ (y : Page). y.kind) read ∙ q)))

  -- where none is missing, and where some are at the end of the records
  module _ (i : ℕ) (seen : List ℕ) (missing : ℕ) (undone cut : Bool) (s : Looked i seen missing undone cut) where
    pub looked_full : missing ≡ 0 → Some (record { undone = undone; cut = cut }) ≡ guest_look t n slot first number kind fence
    unfolding guest_look
    looked_full e =
        let full : tally number seen ≡ number = omega (arith, s.missing_is) in
        let there : (d : ℕ) → d < number → meant t n slot (first + d) < n = λ d l.
        let (k, b, q) = any_one (λ k. claims slot (first + d) (t.page k)) i (all_claimed t n slot first number i seen s.pages full d l) in
        ltb-true _ _ (mapped-is t n slot first number d ∙ any_hit (λ k. claims slot (first + d) (t.page k)) k n (omega (arith, s.upto)) q) in
        let rest : (test : Page → Bool) → met test i ≡ any (λ d. test (t.page (meant t n slot (first + d)))) number = λ test.
        any_upto (λ j. is_meant t n slot first number j && test (t.page j)) i n s.upto (λ j l. rw (none_left t n slot first number i seen s.pages full j l)) ∙ hits t n slot first number test there in
        let good : any (λ d. not (ltb (meant t n slot (first + d)) n && eqb (t.page (meant t n slot (first + d))).kind kind)) number ≡ false =
        any_ext _ _ number (λ d l. rw (lt-ltb (meant t n slot (first + d)) n (there d l))) ∙ sym (rest wrong) ∙ s.kinds in
        rw (good, s.undone_is, rest undone_of, s.cut_is, rest (is_cut first number))

    pub looked_short : i ≡ n → (missing ≡ 0 → ⊥) → None ≡ guest_look t n slot first number kind fence
    unfolding guest_look
    looked_short e k =
        let some : any (λ d. not (member_in 64 d seen)) number ≡ true =
        sym (not-all (λ d. member_in 64 d seen) number)
        ∙ ap not (sym (count-all (λ d. member_in 64 d seen) number) ∙ ne_eqb (tally number seen) number (λ q. k (omega (arith, s.missing_is)))) in
        let (d, l, q) = any_one (λ d. not (member_in 64 d seen)) number some in
        let off : ltb (meant t n slot (first + d)) n ≡ false =
        mapped-is t n slot first number d ∙ ap (λ (x : ℕ). claimed t slot first number x d) (sym e) ∙ sym (s.pages.has d l) ∙ not-true (member_in 64 d seen) q in
        rw (any_hit (λ d. not (ltb (meant t n slot (first + d)) n && eqb (t.page (meant t n slot (first + d))).kind kind)) d number l (rw off))
