-- Document 01, "Calls": what success does to the table and to the ledger, and its value.
use Rattle.std.proofs.Math.Option.{some}
use Rattle.std.specs.Prelude.{ℕ, ◌+◌, ◌-◌, min, Bool, true, cond, ◌&&◌, ltb, eqb}
use Rattle.sets.specs.Terms.{any_in, row, within, put}
use Rattle.sets.specs.Look.{lowest}
use Rattle.rules.specs.Page.{Page, Table, over, page, moved, guest_word, is_given, is_meant}
use Rattle.rules.specs.Fence.{begin, strike, number}
use Rattle.rules.specs.Ledger.{Ledger, Slot, Hart, inside, outside, bare, opened, with_global, with_slot, with_hart, with_fence, slot, slot_of, place_number, others_of, insiders_of, flushes}
use Rattle.rules.specs.Calls.{Call, Tvm, Vcpu, HostBase, FreeBase, DirectoryBase, UnitType, HartCount, PageCount, arg, moves, size, first_guest, index, free_spans}
use Rattle.rules.specs.Refusals.{the_slot, taken, unused}

-- "destroy adds 1 (65,535 stays)"
abbrev pub destroyed : Slot → Slot
destroyed s = bare 0 (record { version = min 65535 (s.fence.version + 1); awaited = s.fence.awaited })

module _ (l : Ledger) (t : Table) (c : Call) where
  -- record i is written: 17 to 19, those meant; 8, the slot's; 33, all; else the pages named, of 11 the dest
  unfoldable pub writes : ℕ → Bool
  writes i =
      row c.number 1 (within (index (arg HostBase c)) (size c) i)
      (row c.number 8 (is_given (t.page i) && eqb (t.page i).slot (arg Tvm c))
      (row c.number 33 (ltb i (arg PageCount c)) (cond (moves c) (is_meant t l.pages (arg Tvm c) (first_guest c) (size c) i) (any_in (λ s. within (index s.base) s.pages i) (free_spans c)))))

  -- what is written there: "page i of a range goes to guest page i"
  abbrev pub mapping : ℕ → Page
  mapping i = page 7 (arg Tvm c) 0 (guest_word (first_guest c + (i - index (arg FreeBase c))) (eqb (arg UnitType c) 1))

  unfoldable pub written : ℕ → Page
  written i =
      row c.number 1 (page 1 0 l.global.version 0)
      (row c.number 5 (page (cond (within (index (arg DirectoryBase c)) 4 i) 3 4) (taken l) 0 0)
      (row c.number 8 (page 2 0 0 0)
      (row c.number 10 (page 6 (arg Tvm c) 0 0)
      (row c.number 11 (mapping i)
      (row c.number 12 (mapping i)
      (row c.number 14 (page 5 (arg Tvm c) 0 0)
      (row c.number 17 (moved 8 (arg Tvm c) (the_slot l t c).fence.version (t.page i))
      (row c.number 18 (moved 7 (arg Tvm c) 0 (t.page i))
      (row c.number 19 (page 2 0 0 0) (page 0 0 0 0))))))))))

  unfoldable pub table : Table
  table = over t writes written

  abbrev pub peopled : Slot → Slot
  peopled s = slot s.phase s.fence (put (arg Vcpu c) true s.made) s.region

  abbrev pub added : Slot → Slot
  added s = slot s.phase s.fence s.made (put (lowest (unused s) 8) (record { first = first_guest c; pages = size c }) s.region)

  -- entering sets the mark; leaving strikes the hart out of the slot where it is
  abbrev pub entered : Hart → Hart
  entered x = record { place = inside (arg Tvm c) (arg Vcpu c); mark = put (arg Tvm c) (some (the_slot l t c).fence.version) x.mark }

  abbrev pub left : ℕ → Hart → Ledger
  left k x = with_hart c.hart (record { place = outside; mark = x.mark }) (with_slot k (with_fence (strike c.hart (l.slot k).fence) (l.slot k)) l)

  unfoldable pub ledger : Ledger
  ledger =
      row c.number 3 (with_global (begin (others_of l c.hart) l.global) l)
      (row c.number 4 (with_global (strike c.hart l.global) l)
      (row c.number 5 (with_slot (taken l) (bare 1 (l.slot (taken l)).fence) l)
      (row c.number 6 (with_slot (arg Tvm c) (slot 2 (the_slot l t c).fence (the_slot l t c).made (the_slot l t c).region) l)
      (row c.number 8 (with_slot (arg Tvm c) (destroyed (the_slot l t c)) l)
      (row c.number 9 (with_slot (arg Tvm c) (added (the_slot l t c)) l)
      (row c.number 14 (with_slot (arg Tvm c) (peopled (the_slot l t c)) l)
      (row c.number 15 (with_hart c.hart (entered (l.hart c.hart)) l)
      (row c.number 16 (with_slot (arg Tvm c) (with_fence (begin (insiders_of l (arg Tvm c)) (the_slot l t c).fence) (the_slot l t c)) l)
      (row c.number 32 (left (slot_of (l.hart c.hart).place) (l.hart c.hart))
      (row c.number 33 (opened (arg HartCount c) (arg PageCount c)) l))))))))))

  -- "Value is 0 where none is named."
  unfoldable pub value : ℕ
  value =
      row c.number 3 (number (others_of l c.hart))
      (row c.number 4 (number (strike c.hart l.global).awaited)
      (row c.number 5 (taken l)
      (row c.number 15 (cond (flushes ((l.hart c.hart).mark (arg Tvm c)) (the_slot l t c).fence.version) 1 0)
      (row c.number 16 (number (insiders_of l (arg Tvm c)))
      (row c.number 32 (place_number (l.hart c.hart).place) 0)))))
