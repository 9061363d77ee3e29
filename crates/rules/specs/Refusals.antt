-- Document 01, "Refusal numbers": one condition for each number, and the lowest that holds.
use Rattle.std.specs.Prelude.{ℕ, suc, ◌+◌, ◌*◌, ◌%◌, min, max, Bool, cond, not, ◌&&◌, ◌||◌, List, [], ◌∷◌, ◌++◌, ltb, leb, eqb}
use Rattle.sets.specs.Terms.{one_of, any_in, row, within}
use Rattle.sets.specs.Look.{any, lowest}
use Rattle.rules.specs.Page.{Page, Table, fits, is_free, is_cut, meant}
use Rattle.rules.specs.Fence.{done, someone}
use Rattle.rules.specs.Ledger.{Ledger, Slot, Region, is_open, is_outside, is_at, insiders_of}
use Rattle.rules.specs.Calls.{Call, Span, Tvm, Vcpu, DirectoryBase, FreeBase, UnitCount, UnitType, GuestBase, ByteLength, HartCount, PageCount, entry_of, allows, names, arg, unnamed, opens, moves, unit, size, first_guest, memory, index, host_spans, free_spans}

-- ---- what the conditions speak of
-- a span of pages in a memory of `total` pages: "not on 4 KiB" (or its own boundary), "starts below memory or ends past it"
abbrev pub misplaced : ℕ → Span → Bool
misplaced total s = not (eqb (s.base % (4096 * s.align)) 0) || ltb s.base memory || ltb (memory + 4096 * total) (s.base + 4096 * s.pages)

-- "Create takes the lowest empty slot whose version is below 65,534."
abbrev pub takeable : Ledger → ℕ → Bool
takeable l k = eqb (l.slot k).phase 0 && ltb (l.slot k).fence.version 65534

unfoldable pub taken : Ledger → ℕ
taken l = lowest (takeable l) 16

-- place i of a slot holds no region: a region has at least one page
abbrev pub unused : Slot → ℕ → Bool
unused s i = eqb (s.region i).pages 0

-- a guest range and a region: they overlap; the range is inside
abbrev pub overlaps : ℕ → ℕ → Region → Bool
overlaps first pages r = ltb (max first r.first) (min (first + pages) (r.first + r.pages))

abbrev pub holds : ℕ → ℕ → Region → Bool
holds first pages r = leb r.first first && leb (first + pages) (r.first + r.pages)

module _ (l : Ledger) (t : Table) (c : Call) where
  -- the slot that the call names
  abbrev pub the_slot : Slot
  the_slot = l.slot (arg Tvm c)

  -- 1: "call number not in the table of calls"
  unfoldable pub refuses1 : Bool
  refuses1 = eqb (entry_of c.number).number 0

  -- 2: "tvm above 15, or slot empty"
  unfoldable pub refuses2 : Bool
  refuses2 = names Tvm c && (ltb 15 (arg Tvm c) || eqb the_slot.phase 0)

  -- 3: "wrong phase; ledger not open, or opened again; table length not the opened one (open: none)"
  unfoldable pub refuses3 : Bool
  refuses3 =
      one_of
      ((names Tvm c && not (allows (entry_of c.number).phases the_slot.phase))
      ∷ (not (opens c) && not (is_open l))
      ∷ (opens c && is_open l)
      ∷ (not (opens c) && not (fits t l.pages))
      ∷ [])

  -- 4: "hart not below the count (open: not 0); unnamed argument not 0; count 0; type above 1; range above 4,096 pages" (not of 9); "byte length
  -- 0 or no multiple of 4,096; vCPU above 7, or absent on enter; open with harts outside 1 to 8 or pages not the lent table's length, 1 to 4,096"
  unfoldable pub refuses4 : Bool
  refuses4 =
      one_of
      ((opens c && ltb 0 c.hart)
      ∷ (not (opens c) && leb l.harts c.hart)
      ∷ unnamed c
      ∷ (names UnitCount c && eqb (arg UnitCount c) 0)
      ∷ (names UnitType c && ltb 1 (arg UnitType c))
      ∷ (not (eqb c.number 9) && ltb 4096 (size c))
      ∷ (names ByteLength c && eqb (arg ByteLength c) 0)
      ∷ (names ByteLength c && not (eqb (arg ByteLength c % 4096) 0))
      ∷ (names Vcpu c && ltb 7 (arg Vcpu c))
      ∷ (eqb c.number 15 && not (the_slot.made (arg Vcpu c)))
      ∷ (opens c && not (within 1 8 (arg HartCount c)))
      ∷ (opens c && not (within 1 4096 (arg PageCount c) && fits t (arg PageCount c)))
      ∷ [])

  -- 5: "address not on 4 KiB (directory: 16 KiB; type 1: dest, base and guest 2 MiB), or page range starts below memory or ends past it, or
  -- guest range ends past 2^32, all reckoned without wrapping; state page inside the directory"
  unfoldable pub refuses5 : Bool
  refuses5 =
      one_of
      (any_in (misplaced l.pages) (host_spans c)
      ∷ any_in (misplaced l.pages) (free_spans c)
      ∷ (names GuestBase c && not (eqb (arg GuestBase c % (4096 * unit c)) 0))
      ∷ (names GuestBase c && ltb 4294967296 (arg GuestBase c + 4096 * size c))
      ∷ (names DirectoryBase c && within (arg DirectoryBase c) 16384 (arg FreeBase c))
      ∷ [])

  -- the record that a guest page of the TVM means; the guest page is mapped where there is one
  abbrev pub the_one : ℕ → ℕ
  the_one g = meant t l.pages (arg Tvm c) g

  abbrev pub mapped : ℕ → Bool
  mapped g = ltb (the_one g) l.pages

  -- some record of the span passes; some guest page of the range passes
  abbrev pub any_page : (Page → Bool) → Span → Bool
  any_page p s = any (λ i. p (t.page (index s.base + i))) s.pages

  abbrev pub any_guest : (ℕ → Bool) → Bool
  any_guest p = any (λ j. p (first_guest c + j)) (size c)

  -- 6: "a page isn't of the kind wanted (free: 1 or 2; 11's source: 0); for 17 to 19 a guest page not mapped, or not present (17), not
  -- blocked (18, 19)"
  unfoldable pub refuses6 : Bool
  refuses6 =
      one_of
      (any_in (any_page (λ p. not (eqb p.kind 0))) (host_spans c)
      ∷ any_in (any_page (λ p. not (is_free p))) (free_spans c)
      ∷ (moves c && any_guest (λ g. not (mapped g && eqb (t.page (the_one g)).kind (row c.number 17 7 8))))
      ∷ [])

  -- 7: "a free page is wanted and it is kind 1, not done; 18, 19: recorded version not done"
  unfoldable pub refuses7 : Bool
  refuses7 =
      any_in (any_page (λ p. eqb p.kind 1 && not (done l.global p.version))) (free_spans c)
      || (eqb c.number 18 || eqb c.number 19) && any_guest (λ g. not (done the_slot.fence (t.page (the_one g)).version))

  -- 8: "3, 16: a hart is still awaited"
  unfoldable pub refuses8 : Bool
  refuses8 = eqb c.number 3 && someone l.global.awaited || eqb c.number 16 && someone the_slot.fence.awaited

  -- 9: "no slot for create; a ninth region"
  unfoldable pub refuses9 : Bool
  refuses9 = eqb c.number 5 && not (any (takeable l) 16) || eqb c.number 9 && not (any (unused the_slot) 8)

  -- 10: "region overlaps one of the TVM's own; 11, 12: guest range not inside one region". 11 and 12 are the calls that name a type.
  unfoldable pub refuses10 : Bool
  refuses10 =
      eqb c.number 9 && any (λ i. overlaps (first_guest c) (size c) (the_slot.region i)) 8
      || names UnitType c && not (any (λ i. holds (first_guest c) (size c) (the_slot.region i)) 8)

  -- 11: "11, 12: a guest page already mapped, blocked or not"
  unfoldable pub refuses11 : Bool
  refuses11 = names UnitType c && any_guest mapped

  -- 12: "hart is inside a TVM (all but 32); vCPU already made, or running elsewhere; destroy with a vCPU inside"
  unfoldable pub refuses12 : Bool
  refuses12 =
      one_of
      ((not (eqb c.number 32) && not (is_outside (l.hart c.hart).place))
      ∷ (eqb c.number 14 && the_slot.made (arg Vcpu c))
      ∷ (eqb c.number 15 && any (λ j. is_at (arg Tvm c) (arg Vcpu c) (l.hart j).place) 8)
      ∷ (eqb c.number 8 && any (insiders_of l (arg Tvm c)) 8)
      ∷ [])

  -- 13: "fence with global version 65,535, or slot version 65,534 or more"
  unfoldable pub refuses13 : Bool
  refuses13 = eqb c.number 3 && leb 65535 l.global.version || eqb c.number 16 && leb 65534 the_slot.fence.version

  -- 14: "17 to 19: a large mapping isn't wholly inside the range"
  unfoldable pub refuses14 : Bool
  refuses14 = moves c && any_guest (λ g. is_cut (first_guest c) (size c) (t.page (the_one g)))

  -- 15: "leave from a hart that is outside"
  unfoldable pub refuses15 : Bool
  refuses15 = eqb c.number 32 && is_outside (l.hart c.hart).place

  -- numbers 1 to 5 look at no record
  abbrev pub early : List Bool
  early = refuses1 ∷ refuses2 ∷ refuses3 ∷ refuses4 ∷ refuses5 ∷ []

  abbrev pub late : List Bool
  late = refuses6 ∷ refuses7 ∷ refuses8 ∷ refuses9 ∷ refuses10 ∷ refuses11 ∷ refuses12 ∷ refuses13 ∷ refuses14 ∷ refuses15 ∷ []

-- "The lowest number whose condition holds is given": n is the number of the list's first; 0 where none holds
abbrev pub lowest_of : ℕ → List Bool → ℕ
lowest_of n [] = 0
lowest_of n (b ∷ bs) = cond b n (lowest_of (suc n) bs)

unfoldable pub refusal : Ledger → Table → Call → ℕ
refusal l t c = lowest_of 1 (early l t c ++ late l t c)
