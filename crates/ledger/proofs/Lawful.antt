-- What the effects need of a call that nothing refuses.
-- Assumes nothing.
use Prim.Native.Nat.{◌+◌, ◌≤◌, ◌<◌}
use mathlib.Core.Path.{◌≡◌, sym, ◌∙◌}
use mathlib.Core.Bool.{true, false, not, ◌&&◌}
use native.Mathlib.Omega.{arith}
use lib.Dec.{leb}
use borrow.Author.Tests.{eq-eqb, leb-false, ltb-true, not-false}
use Rattle.sets.specs.Terms.{within}
use Rattle.sets.specs.Look.{any, lowest}
use Rattle.sets.proofs.Bools.{and_left, and_off, or_left}
use Rattle.sets.proofs.Looks.{lowest-any}
use Rattle.rules.specs.Page.{Table, fits}
use Rattle.rules.specs.Ledger.{Ledger, is_outside}
use Rattle.rules.specs.declared.Call.{Call}
use Rattle.rules.specs.declared.Role.TheVariants.{Tvm, Vcpu, GuestBase, HartCount, PageCount}
use Rattle.rules.specs.Calls.{opens, names, arg, size, first_guest}
use Rattle.rules.specs.Refusals.{refuses9, refuses13, refuses15, takeable, taken, unused}
use Rattle.rules.proofs.Accepted.{Early, Passed, passed, early_of, harts_lawful, pages_lawful}
use Rattle.rules.proofs.Bounds.{in_within, slot_in, few_harts, hart_low, vcpu_in, guest_in}
use Rattle.ledger.specs.Settled.{Lawful}

module _ (l : Ledger) (c : Call) (p : Lawful l c) where
  abbrev t : Table
  t = p.0

  all : Passed l t c
  all = passed l t c p.1

  first : Early l t c
  first = early_of l t c all

  pub tvm_low : names Tvm c ≡ true → arg Tvm c < 16
  tvm_low n = slot_in l t c first n

  pub vcpu_low : names Vcpu c ≡ true → arg Vcpu c < 8
  vcpu_low n = vcpu_in l t c first n

  pub guests_low : names GuestBase c ≡ true → first_guest c + size c ≤ 1048576
  guests_low n = guest_in l t c first n

  pub hart-small : opens c ≡ false → c.hart < 8
  hart-small n = hart_low l t c first n

  pub harts-small : opens c ≡ false → l.harts ≤ 8
  harts-small n = few_harts l t c first n

  pub global-version : c.number ≡ 3 → l.global.version < 65535
  unfolding refuses13
  global-version e = leb-false 65535 l.global.version (or_left (leb 65535 l.global.version) false (sym (rw e) ∙ all.p13))

  pub slot-version : c.number ≡ 16 → (l.slot (arg Tvm c)).fence.version < 65534
  unfolding refuses13
  slot-version e = leb-false 65534 (l.slot (arg Tvm c)).fence.version (sym (rw e) ∙ all.p13)

  pub slot_free : c.number ≡ 5 → taken l < 16
  unfolding refuses9 taken
  slot_free e =
      ltb-true (lowest (takeable l) 16) 16 (lowest-any (takeable l) 16 ∙ not-false (any (takeable l) 16) (or_left (not (any (takeable l) 16)) false (sym (rw e) ∙ all.p9)))

  pub region_free : c.number ≡ 9 → lowest (unused (l.slot (arg Tvm c))) 8 < 8
  unfolding refuses9
  region_free e = ltb-true (lowest (unused (l.slot (arg Tvm c))) 8) 8 (lowest-any (unused (l.slot (arg Tvm c))) 8 ∙ not-false (any (unused (l.slot (arg Tvm c))) 8) (sym (rw e) ∙ all.p9))

  pub is-inside : c.number ≡ 32 → is_outside (l.hart c.hart).place ≡ false
  unfolding refuses15
  is-inside e = sym (rw e) ∙ all.p15

  pub opened-harts : c.number ≡ 33 → arg HartCount c ≤ 8
  opened-harts e =
      let h = in_within 1 8 (arg HartCount c) (not-false (within 1 8 (arg HartCount c)) (and_off (opens c) _ (harts_lawful l t c all) (eq-eqb c.number 33 e))) in
      omega (arith, h.1)

  pub opened-pages : c.number ≡ 33 → arg PageCount c ≤ 4096
  opened-pages e =
      let b = not-false (within 1 4096 (arg PageCount c) && fits t (arg PageCount c)) (and_off (opens c) _ (pages_lawful l t c all) (eq-eqb c.number 33 e)) in
      let h = in_within 1 4096 (arg PageCount c) (and_left (within 1 4096 (arg PageCount c)) (fits t (arg PageCount c)) b) in
      omega (arith, h.1)
