-- What table, ledger and value are at each call number.
-- Assumes nothing.
use Prim.Native.Nat.{ℕ}
use mathlib.Core.Path.{◌≡◌, refl, sym, ◌∙◌}
use mathlib.Core.Bool.{Bool, true, false, cond, ◌&&◌, ◌||◌, true≢false}
use mathlib.Core.Logic.{⊎_elim}
use mathlib.Core.Option.{some}
use mathlib.Core.List.{[], ◌∷◌}
use lib.Dec.{ltb, eqb}
use borrow.Author.Tests.{ne_eqb, eqb-true}
use Rattle.sets.specs.Terms.{one_of, one_from, any_in, row, within, put}
use Rattle.sets.specs.Look.{lowest}
use Rattle.sets.proofs.Bools.{by_test, or_cases}
use Rattle.sets.proofs.OneOf.{one_off}
use Rattle.rules.specs.declared.Call.{Call}
use Rattle.rules.specs.declared.Role.TheVariants.{Tvm, Vcpu, HostBase, FreeBase, DirectoryBase, UnitType, HartCount, PageCount}
use Rattle.rules.specs.Page.{Table, over, page, is_given, is_meant}
use Rattle.rules.specs.Fence.{begin, strike, number}
use Rattle.rules.specs.Ledger.{Ledger, with_global, with_slot, with_hart, with_fence, slot, bare, opened, inside, outside, slot_of, place_number, others_of, insiders_of, flushes}
use Rattle.rules.specs.Calls.{entry_of, names, arg, moves, size, first_guest, index, free_spans}
use Rattle.rules.specs.Refusals.{the_slot, taken, unused}
use Rattle.rules.specs.Effects.{writes, written, table, ledger, value, mapping, destroyed}
use Rattle.rules.proofs.CallTable.{each, with_it, among, named_at}
use Rattle.rules.proofs.Spans.{free_spans_lem}
use Rattle.records.specs.Passes.{becomes}
use Rattle.ledger.specs.Settled.{Kept}

-- ---- the table
module _ (l : Ledger) (t : Table) (c : Call) where
  pub table_1 : c.number ≡ 1 → table l t c ≡ over t (within (index (arg HostBase c)) (size c)) (λ i. page 1 0 l.global.version 0)
  unfolding table writes written
  table_1 e = rw e

  pub table_2 : c.number ≡ 2 → table l t c ≡ over t (within (index (arg FreeBase c)) (size c)) (λ i. page 0 0 0 0)
  unfolding table writes written free_spans names entry_of one_of one_from
  table_2 e = rw e

  pub table_5 : c.number ≡ 5 → table l t c
      ≡ over t (λ i. within (index (arg DirectoryBase c)) 4 i || within (index (arg FreeBase c)) 1 i) (λ i. page (cond (within (index (arg DirectoryBase c)) 4 i) 3 4) (taken l) 0 0)
  unfolding table writes written free_spans names entry_of one_of one_from size
  table_5 e = rw e

  pub table_8 : c.number ≡ 8 → table l t c ≡ over t (λ i. is_given (t.page i) && eqb (t.page i).slot (arg Tvm c)) (λ i. page 2 0 0 0)
  unfolding table writes written
  table_8 e = rw e

  pub table_10 : c.number ≡ 10 → table l t c ≡ over t (within (index (arg FreeBase c)) (size c)) (λ i. page 6 (arg Tvm c) 0 0)
  unfolding table writes written free_spans names entry_of one_of one_from
  table_10 e = rw e

  table_11 : c.number ≡ 11 → table l t c ≡ over t (within (index (arg FreeBase c)) (size c)) (mapping l t c)
  unfolding table writes written free_spans names entry_of one_of one_from
  table_11 e = rw e

  table_12 : c.number ≡ 12 → table l t c ≡ over t (within (index (arg FreeBase c)) (size c)) (mapping l t c)
  unfolding table writes written free_spans names entry_of one_of one_from
  table_12 e = rw e

  pub table_14 : c.number ≡ 14 → table l t c ≡ over t (within (index (arg FreeBase c)) (size c)) (λ i. page 5 (arg Tvm c) 0 0)
  unfolding table writes written free_spans names entry_of one_of one_from
  table_14 e = rw e

  pub table_33 : c.number ≡ 33 → table l t c ≡ over t (λ i. ltb i (arg PageCount c)) (λ i. page 0 0 0 0)
  unfolding table writes written
  table_33 e = rw e

  -- 11 and 12 are the calls that name a type
  pub table_typed : names UnitType c ≡ true → table l t c ≡ over t (within (index (arg FreeBase c)) (size c)) (mapping l t c)
  unfolding entry_of each one_of one_from
  table_typed n =
      ⊎_elim (λ e. table_11 (eqb-true c.number 11 e)) (λ e. table_12 (eqb-true c.number 12 e))
      (or_cases (eqb c.number 11) (eqb c.number 12) (among UnitType (11 ∷ 12 ∷ []) refl c n))

  -- 17 to 19
  abbrev Moved : Type 0
  Moved =
      table l t c
      ≡ over t (is_meant t l.pages (arg Tvm c) (first_guest c) (size c)) (λ i. becomes (row c.number 17 8 (row c.number 18 7 2)) (arg Tvm c) (row c.number 17 (the_slot l t c).fence.version 0) (t.page i))

  at_17 : c.number ≡ 17 → Moved
  unfolding table writes written
  at_17 e = rw e

  at_18 : c.number ≡ 18 → Moved
  unfolding table writes written
  at_18 e = rw e

  at_19 : c.number ≡ 19 → Moved
  unfolding table writes written
  at_19 e = rw e

  pub table-moved : moves c ≡ true → table l t c
      ≡ over t (is_meant t l.pages (arg Tvm c) (first_guest c) (size c)) (λ i. becomes (row c.number 17 8 (row c.number 18 7 2)) (arg Tvm c) (row c.number 17 (the_slot l t c).fence.version 0) (t.page i))
  table-moved m =
      ⊎_elim
      (λ e. ⊎_elim (λ f. at_17 (eqb-true c.number 17 f)) (λ f. at_18 (eqb-true c.number 18 f)) (or_cases (eqb c.number 17) (eqb c.number 18) e))
      (λ e. at_19 (eqb-true c.number 19 e))
      (or_cases (eqb c.number 17 || eqb c.number 18) (eqb c.number 19) m)

  -- no other call writes a record
  nothing_free : names FreeBase c ≡ false → (j : ℕ) → any_in (λ s. within (index s.base) s.pages j) (free_spans c) ≡ false
  unfolding each entry_of one_of one_from
  nothing_free f j = free_spans_lem (λ s. within (index s.base) s.pages j) c ∙ none (names DirectoryBase c) (names FreeBase c) (within (index (arg DirectoryBase c)) 4 j) (within (index (arg FreeBase c)) (size c) j) no_directory f
    where
      no_directory : names DirectoryBase c ≡ false
      no_directory = by_test (names DirectoryBase c) (λ n. absurd (true≢false (sym (with_it DirectoryBase FreeBase refl refl c n) ∙ f))) (λ n. n)

      none : (a b x y : Bool) → a ≡ false → b ≡ false → (a && x || b && y) ≡ false
      none a b x y e f = rw (e, f)

  pub table_none : names FreeBase c ≡ false → moves c ≡ false → (c.number ≡ 1 → ⊥) → (c.number ≡ 8 → ⊥) → (c.number ≡ 33 → ⊥) → table l t c ≡ t
  unfolding table writes
  table_none f m n1 n8 n33 =
      rw (ne_eqb c.number 1 n1, ne_eqb c.number 8 n8, ne_eqb c.number 33 n33, m)
      (λ i. record { bytes = t.bytes; page = λ j. cond (nothing_free f j i) (written l t c j) (t.page j) })

-- a call that names free pages and is none of these names a type
pub typed_free : (c : Call) → names FreeBase c ≡ true → (c.number ≡ 2 → ⊥) → (c.number ≡ 5 → ⊥) → (c.number ≡ 10 → ⊥) → (c.number ≡ 14 → ⊥) → names UnitType c ≡ true
unfolding entry_of each one_of one_from
typed_free c n n2 n5 n10 n14 =
    let m = among FreeBase (2 ∷ 5 ∷ 10 ∷ 14 ∷ 11 ∷ 12 ∷ []) refl c n in
    let k : (eqb c.number 11 || eqb c.number 12) ≡ true = sym (rw (ne_eqb c.number 2 n2, ne_eqb c.number 5 n5, ne_eqb c.number 10 n10, ne_eqb c.number 14 n14)) ∙ m in
    ⊎_elim (λ e. named_at 11 UnitType c (eqb-true c.number 11 e)) (λ e. named_at 12 UnitType c (eqb-true c.number 12 e)) (or_cases (eqb c.number 11) (eqb c.number 12) k)

-- ---- ledger and value
module _ (l : Ledger) (c : Call) where
  abbrev pub Is : ℕ → Ledger → Type 0
  Is v m = (t : Table) → (value l t c ≡ v) × (ledger l t c ≡ m)

  pub kept : {v w : ℕ} {l' m : Ledger} → Is w m → v ≡ w → l' ≡ m → Kept l c v l'
  kept is f g t = (f ∙ sym (is t).0, g ∙ sym (is t).1)

  pub call_3 : c.number ≡ 3 → Is (number (others_of l c.hart)) (with_global (begin (others_of l c.hart) l.global) l)
  unfolding value ledger
  call_3 e t = (rw e, rw e)

  pub call_4 : c.number ≡ 4 → Is (number (strike c.hart l.global).awaited) (with_global (strike c.hart l.global) l)
  unfolding value ledger
  call_4 e t = (rw e, rw e)

  pub call_5 : c.number ≡ 5 → Is (taken l) (with_slot (taken l) (bare 1 (l.slot (taken l)).fence) l)
  unfolding value ledger
  call_5 e t = (rw e, rw e)

  pub call_6 : c.number ≡ 6 → Is 0 (with_slot (arg Tvm c) (slot 2 (l.slot (arg Tvm c)).fence (l.slot (arg Tvm c)).made (l.slot (arg Tvm c)).region) l)
  unfolding value ledger
  call_6 e t = (rw e, rw e)

  pub call_8 : c.number ≡ 8 → Is 0 (with_slot (arg Tvm c) (destroyed (l.slot (arg Tvm c))) l)
  unfolding value ledger
  call_8 e t = (rw e, rw e)

  pub call_9 : c.number ≡ 9 → Is 0 (with_slot (arg Tvm c) (slot (l.slot (arg Tvm c)).phase (l.slot (arg Tvm c)).fence (l.slot (arg Tvm c)).made (put (lowest (unused (l.slot (arg Tvm c))) 8) (record { first = first_guest c; pages = size c }) (l.slot (arg Tvm c)).region)) l)
  unfolding value ledger
  call_9 e t = (rw e, rw e)

  pub call_14 : c.number ≡ 14 → Is 0 (with_slot (arg Tvm c) (slot (l.slot (arg Tvm c)).phase (l.slot (arg Tvm c)).fence (put (arg Vcpu c) true (l.slot (arg Tvm c)).made) (l.slot (arg Tvm c)).region) l)
  unfolding value ledger
  call_14 e t = (rw e, rw e)

  pub call_15 : c.number ≡ 15 → Is (cond (flushes ((l.hart c.hart).mark (arg Tvm c)) (l.slot (arg Tvm c)).fence.version) 1 0) (with_hart c.hart (record { place = inside (arg Tvm c) (arg Vcpu c); mark = put (arg Tvm c) (some (l.slot (arg Tvm c)).fence.version) (l.hart c.hart).mark }) l)
  unfolding value ledger
  call_15 e t = (rw e, rw e)

  pub call_16 : c.number ≡ 16 → Is (number (insiders_of l (arg Tvm c))) (with_slot (arg Tvm c) (with_fence (begin (insiders_of l (arg Tvm c)) (l.slot (arg Tvm c)).fence) (l.slot (arg Tvm c))) l)
  unfolding value ledger
  call_16 e t = (rw e, rw e)

  pub call_32 : c.number ≡ 32 → Is (place_number (l.hart c.hart).place) (with_hart c.hart (record { place = outside; mark = (l.hart c.hart).mark })
      (with_slot (slot_of (l.hart c.hart).place) (with_fence (strike c.hart (l.slot (slot_of (l.hart c.hart).place)).fence) (l.slot (slot_of (l.hart c.hart).place))) l))
  unfolding value ledger
  call_32 e t = (rw e, rw e)

  pub call_33 : c.number ≡ 33 → Is 0 (opened (arg HartCount c) (arg PageCount c))
  unfolding value ledger
  call_33 e t = (rw e, rw e)

  -- no other call changes the ledger
  pub call_none : any_in (eqb c.number) (3 ∷ 4 ∷ 5 ∷ 15 ∷ 16 ∷ 32 ∷ []) ≡ false → any_in (eqb c.number) (6 ∷ 8 ∷ 9 ∷ 14 ∷ 33 ∷ []) ≡ false → Is 0 l
  unfolding value ledger
  call_none f g t = (
    rw (one_off _ f 0, one_off _ f 1, one_off _ f 2, one_off _ f 3, one_off _ f 4, one_off _ f 5),
    rw (one_off _ f 0, one_off _ f 1, one_off _ f 2, one_off _ g 0, one_off _ g 1, one_off _ g 2, one_off _ g 3, one_off _ f 3, one_off _ f 4, one_off _ f 5, one_off _ g 4),
  )
