-- A call is refused for a page that it needs and whose version is not done, with 7 or a lower number; and one that is refused 7 needs such a page.
-- Assumes nothing.
use Prim.Native.Nat.{ℕ, zero, suc, ◌+◌, ◌≤◌}
use mathlib.Core.Path.{◌≡◌, refl, sym, subst, ◌∙◌, ap}
use mathlib.Core.Logic.{◌⊎◌, inl, inr}
use mathlib.Core.Bool.{Bool, true, false, not, ◌&&◌, ◌||◌, true≢false, false≢true, or-true}
use mathlib.Core.List.{List, [], ◌∷◌, ◌++◌}
use native.Mathlib.Omega.{arith}
use lib.Dec.{ltb, eqb}
use lib.ListN.{get_or}
use borrow.Author.Tests.{ltb-true, eqb-true, eq-eqb, not-true, not-false}
use Rattle.sets.specs.Terms.{any_in, row, within}
use Rattle.sets.proofs.Bools.{by_test, or_right, or_cases, and_left, and_right, and_off}
use Rattle.sets.proofs.Looks.{any_one, lowest_true}
use Rattle.sets.proofs.OneOf.{one_off}
use Rattle.rules.specs.declared.Page.{Page}
use Rattle.rules.specs.declared.Call.{Call}
use Rattle.rules.specs.declared.Role.TheVariants.{Tvm}
use Rattle.rules.specs.Page.{guest_page, claims, meant, is_meant}
use Rattle.rules.specs.Fence.{done}
use Rattle.rules.specs.Calls.{moves, arg, index, free_spans, size, first_guest}
use Rattle.rules.specs.Refusals.{early, late, lowest_of, refusal, refuses6, refuses7, any_page, any_guest, the_one, mapped}
use Rattle.rules.specs.Step.{Refused, State, settle, step}
use Rattle.rules.proofs.Exactly.{exactly}
use Rattle.history.specs.Demand3.{counts_free, needs, not_done}
use Rattle.history.proofs.Records.{Claim, claim}
use Rattle.history.proofs.Spans.{to_range, is_of, find-number, neither_free, at_guest, meant_is}

-- the number given is at most that of a condition that holds
at_most : (k : ℕ) (bs : List Bool) (i : ℕ) → get_or bs i false ≡ true → (j : ℕ) × (j ≤ i) × (lowest_of (suc k) bs ≡ suc (k + j))
at_most k [] i e = absurd (false≢true e)
at_most k (true ∷ bs) i e = (0, omega arith, omega arith)
at_most k (false ∷ bs) zero e = absurd (false≢true e)
at_most k (false ∷ bs) (suc i) e = let (j, l, q) = at_most (suc k) bs i e in (suc j, omega arith, q ∙ omega arith)

abbrev Within7 : State → Call → Type 0
Within7 s d = (n : ℕ) × (1 ≤ n) × (n ≤ 7) × ((step s d).answer ≡ Refused n)

refused_by : (s : State) (d : Call) (i : ℕ) → i ≤ 6 → get_or (early s.ledger s.table d ++ late s.ledger s.table d) i false ≡ true → Within7 s d
unfolding step refusal
refused_by s d i b e =
    let (j, l, q) = at_most 0 (early s.ledger s.table d ++ late s.ledger s.table d) i e in
    (suc (0 + j), omega arith, omega arith, ap (λ k. (settle k s d).answer) q)

-- a page whose version is not done: of kind 1, or of kind 8
pub by_kind : {P : Type 0} (s : State) (p : ℕ) → not_done s.ledger (s.table.page p) ≡ true → ((s.table.page p).kind ≡ 1 → done s.ledger.global (s.table.page p).version ≡ false → P)
    → ((s.table.page p).kind ≡ 8 → done (s.ledger.slot (s.table.page p).slot).fence (s.table.page p).version ≡ false → P) → P
unfolding not_done
by_kind {P} s p e f g = go (or_cases (a && not (done s.ledger.global q.version)) (b && not (done (s.ledger.slot q.slot).fence q.version)) e)
  where
    q : Page
    q = s.table.page p

    a : Bool
    a = eqb q.kind 1

    b : Bool
    b = eqb q.kind 8

    go : ((a && not (done s.ledger.global q.version)) ≡ true) ⊎ ((b && not (done (s.ledger.slot q.slot).fence q.version)) ≡ true) → P
    go (inl h) = f (eqb-true q.kind 1 (and_left a _ h)) (not-true _ (and_right a _ h))
    go (inr h) = g (eqb-true q.kind 8 (and_left b _ h)) (not-true _ (and_right b _ h))

module _ (s : State) (d : Call) where
  -- 18 or 19
  abbrev undoes : Bool
  undoes = eqb d.number 18 || eqb d.number 19

  -- a guest page of the range whose record is not done; the two parts of condition 7
  abbrev late_at : ℕ → Bool
  late_at g = not (done (s.ledger.slot (arg Tvm d)).fence (s.table.page (the_one s.ledger s.table d g)).version)

  abbrev free_waits : Bool
  free_waits = any_in (any_page s.ledger s.table d (λ p. eqb p.kind 1 && not (done s.ledger.global p.version))) (free_spans d)

  abbrev meant_waits : Bool
  meant_waits = undoes && any_guest s.ledger s.table d late_at

  -- neither condition 6 nor 7 holds: a page that is needed is done
  not_free : (p : ℕ) → counts_free s.ledger.global (s.table.page p) ≡ true → not_done s.ledger (s.table.page p) ≡ true → ⊥
  not_free p w e = by_kind s p e (λ k v. false≢true (rw (k, v) at w)) (λ k v. false≢true (rw k at w))

  not-meant : refuses7 s.ledger s.table d ≡ false → (p : ℕ) → (undoes && is_meant s.table s.ledger.pages (arg Tvm d) (first_guest d) (size d) p) ≡ true
      → not_done s.ledger (s.table.page p) ≡ true → ⊥
  unfolding refuses7
  not-meant e7 p w e =
      let l = s.ledger in
      let t = s.table in
      let m = meant_is t l.pages (arg Tvm d) (first_guest d) (size d) p (and_right undoes _ w) in
      let k = claim (arg Tvm d) (guest_page (t.page p)) (t.page p) m.claimed in
      let none = and_off undoes (any_guest l t d late_at) (or_right free_waits meant_waits e7) (and_left undoes _ w) in
      let u = not-false _ (at_guest l t d late_at (guest_page (t.page p)) none m.here) in
      let v : done (l.slot (arg Tvm d)).fence (t.page p).version ≡ true = subst (λ i. done (l.slot (arg Tvm d)).fence (t.page i).version ≡ true) m.is-meant u in
      by_kind s p e (λ x y. false≢true (rw x at k.claim_mapped)) (λ x y. true≢false (sym v ∙ rw k.slot_is at y))

  pub needed : (p : ℕ) → needs s d p ≡ true → not_done s.ledger (s.table.page p) ≡ true → Within7 s d
  unfolding needs
  needed p w e =
      by_test (refuses6 s.ledger s.table d) (λ e6. refused_by s d 5 (omega arith) e6)
      (λ e6. by_test (refuses7 s.ledger s.table d) (λ e7. refused_by s d 6 (omega arith) e7)
      (λ e7. absurd (go e6 e7 (or_cases (is_of (free_spans d) p) _ w))))
    where
      go : refuses6 s.ledger s.table d ≡ false → refuses7 s.ledger s.table d ≡ false
          → (is_of (free_spans d) p ≡ true) ⊎ ((undoes && is_meant s.table s.ledger.pages (arg Tvm d) (first_guest d) (size d) p) ≡ true) → ⊥
      go e6 e7 (inl u) = not_free p (neither_free s.ledger s.table d e6 e7 p u) e
      go e6 e7 (inr u) = not-meant e7 p u e

  -- the page for which a call is refused 7
  abbrev Blamed : Type 0
  Blamed = (q : ℕ) × (needs s d q ≡ true) × (not_done s.ledger (s.table.page q) ≡ true)

  for_free : free_waits ≡ true → Blamed
  unfolding needs not_done
  for_free e =
      let waits : ℕ → Bool = λ i. eqb (s.table.page i).kind 1 && not (done s.ledger.global (s.table.page i).version) in
      let (q, u, v) = find-number (any_page s.ledger s.table d (λ p. eqb p.kind 1 && not (done s.ledger.global p.version))) (λ x i. within (index x.base) x.pages i) waits
      (λ x h. let (j, b, y) = any_one (λ i. waits (index x.base + i)) x.pages h in (index x.base + j, to_range (index x.base) x.pages j b, y)) (free_spans d) e in
      (q, rw u, rw v)

  -- 18 and 19 want blocked pages
  undoing : undoes ≡ true → (moves d ≡ true) × (row {A = ℕ} d.number 17 7 8 ≡ 8)
  undoing e = go (or_cases (eqb d.number 18) (eqb d.number 19) e)
    where
      go : (eqb d.number 18 ≡ true) ⊎ (eqb d.number 19 ≡ true) → (moves d ≡ true) × (row {A = ℕ} d.number 17 7 8 ≡ 8)
      go (inl h) = let z = eqb-true d.number 18 h in (rw z, rw z)
      go (inr h) = let z = eqb-true d.number 19 h in (rw z, rw z)

  -- the record q that the guest page g means
  module _ (g q : ℕ) (k : Claim (arg Tvm d) g (s.table.page q)) where
    is_needed : undoes ≡ true → within (first_guest d) (size d) g ≡ true → ltb q s.ledger.pages ≡ true → meant s.table s.ledger.pages (arg Tvm d) g ≡ q → needs s d q ≡ true
    unfolding needs is_meant
    is_needed two here below m = rw (two, below, k.guest_is, here, eq-eqb (meant s.table s.ledger.pages (arg Tvm d) g) q m) (or-true (is_of (free_spans d) q))

    is-late : (s.table.page q).kind ≡ 8 → not (done (s.ledger.slot (arg Tvm d)).fence (s.table.page q).version) ≡ true → not_done s.ledger (s.table.page q) ≡ true
    unfolding not_done
    is-late eight late = rw (eight, k.slot_is) late

  for_meant : refuses6 s.ledger s.table d ≡ false → meant_waits ≡ true → Blamed
  unfolding refuses6 meant
  for_meant e6 e =
      let l = s.ledger in
      let t = s.table in
      let two = and_left undoes (any_guest l t d late_at) e in
      let (j, b, late) = any_one (λ j. late_at (first_guest d + j)) (size d) (and_right undoes (any_guest l t d late_at) e) in
      let g = first_guest d + j in
      let q = the_one l t d g in
      let here = to_range (first_guest d) (size d) j b in
      let other : ℕ → Bool = λ g. not (mapped l t d g && eqb (t.page (the_one l t d g)).kind (row d.number 17 7 8)) in
      let fit : (mapped l t d g && eqb (t.page q).kind (row d.number 17 7 8)) ≡ true
      = not-false _ (at_guest l t d other g (and_off (moves d) (any_guest l t d other) (one_off _ e6 2) (undoing two).0) here) in
      let below = and_left (mapped l t d g) _ fit in
      let eight : (t.page q).kind ≡ 8 = eqb-true (t.page q).kind (row d.number 17 7 8) (and_right (mapped l t d g) _ fit) ∙ (undoing two).1 in
      let k = claim (arg Tvm d) g (t.page q) (lowest_true (λ i. claims (arg Tvm d) g (t.page i)) l.pages (ltb-true q l.pages below)) in
      (q, is_needed g q k two here below refl, is-late g q k eight late)

  pub blamed : (step s d).answer ≡ Refused 7 → Blamed
  unfolding refuses7
  blamed e = let (now, lower) = ((exactly s d).0 7 (omega arith)).0 e in go (lower 6 (omega arith)) (or_cases free_waits meant_waits now)
    where
      go : refuses6 s.ledger s.table d ≡ false → (free_waits ≡ true) ⊎ (meant_waits ≡ true) → Blamed
      go e6 (inl h) = for_free h
      go e6 (inr h) = for_meant e6 h
