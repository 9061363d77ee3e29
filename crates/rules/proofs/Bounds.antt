-- What refusals 1 to 5 leave: slot, hart, pages and guest pages are within their bounds.
-- Assumes nothing.
use Prim.Native.Nat.{ℕ, ◌+◌, ◌*◌, ◌/◌, ◌%◌, ◌≤◌, ◌<◌}
use mathlib.Core.Path.{◌≡◌, sym, ◌∙◌}
use mathlib.Core.Bool.{true, false, not, ◌&&◌, ◌||◌}
use native.Mathlib.Omega.{arith}
use lib.Dec.{ltb, leb, eqb}
use borrow.Author.Tests.{ltb-true, ltb-false, leb-true, leb-false, eqb-true, not-false}
use Rattle.sets.specs.Terms.{within}
use Rattle.sets.proofs.Bools.{or_left, or_right, and_left, and_right, and_off}
use Rattle.sets.proofs.OneOf.{one_off}
use Rattle.rules.specs.Page.{Table, fits}
use Rattle.rules.specs.Ledger.{Ledger, is_open}
use Rattle.rules.specs.declared.Call.{Call}
use Rattle.rules.specs.declared.Role.TheVariants.{Tvm, Vcpu, HostBase, FreeBase, DirectoryBase, GuestBase}
use Rattle.rules.specs.Calls.{Span, span, opens, names, arg, unit, size, first_guest, memory, index}
use Rattle.rules.specs.Refusals.{misplaced, refuses2, refuses3, refuses4, refuses5}
use Rattle.rules.proofs.Accepted.{Early}
use Rattle.rules.proofs.Spans.{host_spans_lem, free_spans_lem}

pub in_within : (first n i : ℕ) → within first n i ≡ true → (first ≤ i) × (i < first + n)
in_within first n i e = (leb-true first i (and_left (leb first i) (ltb i (first + n)) e), ltb-true i (first + n) (and_right (leb first i) (ltb i (first + n)) e))

-- a table that fits is as long as its records
pub fits-is : (t : Table) (n : ℕ) → fits t n ≡ true → t.bytes ≡ 8 * n
fits-is t n e =
    let q = eqb-true (t.bytes / 8) n (and_left (eqb (t.bytes / 8) n) (eqb (t.bytes % 8) 0) e) in
    let r = eqb-true (t.bytes % 8) 0 (and_right (eqb (t.bytes / 8) n) (eqb (t.bytes % 8) 0) e) in
    omega arith

-- where pages are
pub record Placed (base pages total : ℕ) : Type 0 where
  pub above : memory ≤ base
  pub inside : index base + pages ≤ total

pub placed : (total : ℕ) (s : Span) → misplaced total s ≡ false → Placed s.base s.pages total
placed total s e =
    let off = not (eqb (s.base % (4096 * s.align)) 0) in
    let low = ltb s.base memory in
    let past = ltb (memory + 4096 * total) (s.base + 4096 * s.pages) in
    let x : memory ≤ s.base = ltb-false s.base memory (or_right off low (or_left (off || low) past e)) in
    let y : s.base + 4096 * s.pages ≤ memory + 4096 * total = ltb-false (memory + 4096 * total) (s.base + 4096 * s.pages) (or_right (off || low) past e) in
    record { above = x; inside = omega arith }

module _ (l : Ledger) (t : Table) (c : Call) where
  module _ (p : Early l t c) where
    pub slot_in : names Tvm c ≡ true → arg Tvm c < 16
    unfolding refuses2
    slot_in n =
        let h = ltb-false 15 (arg Tvm c) (or_left _ _ (and_off _ _ p.e2 n)) in
        omega arith

    pub opened-is : opens c ≡ false → is_open l ≡ true
    unfolding refuses3
    opened-is n = not-false (is_open l) (and_off (not (opens c)) (not (is_open l)) (one_off _ p.e3 1) (rw n))

    pub table_is : opens c ≡ false → t.bytes ≡ 8 * l.pages
    unfolding refuses3
    table_is n = fits-is t l.pages (not-false (fits t l.pages) (and_off (not (opens c)) (not (fits t l.pages)) (one_off _ p.e3 3) (rw n)))

    pub few_pages : opens c ≡ false → l.pages ≤ 4096
    few_pages n =
        let h = in_within 1 4096 l.pages (and_right (within 1 8 l.harts) (within 1 4096 l.pages) (opened-is n)) in
        omega (arith, h.1)

    pub few_harts : opens c ≡ false → l.harts ≤ 8
    few_harts n =
        let h = in_within 1 8 l.harts (and_left (within 1 8 l.harts) (within 1 4096 l.pages) (opened-is n)) in
        omega (arith, h.1)

    pub hart_in : opens c ≡ false → c.hart < l.harts
    unfolding refuses4
    hart_in n = leb-false l.harts c.hart (and_off (not (opens c)) (leb l.harts c.hart) (one_off _ p.e4 1) (rw n))

    pub hart_low : opens c ≡ false → c.hart < 8
    hart_low n = omega (arith, few_harts n, hart_in n)

    pub size_in : eqb c.number 9 ≡ false → size c ≤ 4096
    unfolding refuses4
    size_in n = ltb-false 4096 (size c) (and_off (not (eqb c.number 9)) (ltb 4096 (size c)) (one_off _ p.e4 5) (rw n))

    pub vcpu_in : names Vcpu c ≡ true → arg Vcpu c < 8
    unfolding refuses4
    vcpu_in n = let h = ltb-false 7 (arg Vcpu c) (and_off (names Vcpu c) (ltb 7 (arg Vcpu c)) (one_off _ p.e4 8) n) in omega arith

    pub host_in : names HostBase c ≡ true → Placed (arg HostBase c) (size c) l.pages
    unfolding refuses5
    host_in n = placed l.pages (span (arg HostBase c) (size c) 1) (and_off _ _ (sym (host_spans_lem (misplaced l.pages) c) ∙ one_off _ p.e5 0) n)

    pub directory_in : names DirectoryBase c ≡ true → Placed (arg DirectoryBase c) 4 l.pages
    unfolding refuses5
    directory_in n = placed l.pages (span (arg DirectoryBase c) 4 4) (and_off _ _ (or_left _ _ (sym (free_spans_lem (misplaced l.pages) c) ∙ one_off _ p.e5 1)) n)

    pub free_in : names FreeBase c ≡ true → Placed (arg FreeBase c) (size c) l.pages
    unfolding refuses5
    free_in n = placed l.pages (span (arg FreeBase c) (size c) (unit c)) (and_off _ _ (or_right (names DirectoryBase c && misplaced l.pages (span (arg DirectoryBase c) 4 4)) _ (sym (free_spans_lem (misplaced l.pages) c) ∙ one_off _ p.e5 1)) n)

    pub guest_in : names GuestBase c ≡ true → first_guest c + size c ≤ 1048576
    unfolding refuses5
    guest_in n =
        let h = ltb-false 4294967296 (arg GuestBase c + 4096 * size c) (and_off _ _ (one_off _ p.e5 3) n) in
        omega arith
