-- On every ledger that calls can reach, the sizes are both 0 or such as open gives; so open, accepted, finds them 0.
-- Assumes nothing.
use Prim.Native.Nat.{ℕ, ◌≤◌, ◌<◌}
use mathlib.Core.Path.{◌≡◌, sym, ◌∙◌}
use mathlib.Core.Bool.{true, ◌&&◌, true≢false}
use native.Mathlib.Omega.{arith}
use lib.Dec.{ltb, leb}
use borrow.Author.Tests.{ltb-true, not-false}
use Rattle.sets.specs.Terms.{within}
use Rattle.sets.proofs.Bools.{and_left, and_right}
use Rattle.rules.specs.declared.Call.{Call}
use Rattle.rules.specs.Page.{Table, fits}
use Rattle.rules.specs.Ledger.{Ledger}
use Rattle.rules.proofs.Accepted.{call, Passed, not_again, harts_lawful, pages_lawful, at_number}

pub data Sizes (harts pages : ℕ) : Type 0 where
  shut : harts ≡ 0 → pages ≡ 0 → Sizes harts pages
  open_for : (within 1 8 harts && within 1 4096 pages) ≡ true → Sizes harts pages

pub few : {harts pages : ℕ} → Sizes harts pages → harts ≤ 8
few (shut e f) = omega arith
few {harts} {pages} (open_for e) =
    let z : harts < 9 = ltb-true harts 9 (and_right (leb 1 harts) (ltb harts 9) (and_left (within 1 8 harts) (within 1 4096 pages) e)) in
    omega arith

module _ (l : Ledger) (t : Table) (c : Call) (p : Passed l t (call 33 c)) where
  pub was_shut : Sizes l.harts l.pages → (l.harts ≡ 0) × (l.pages ≡ 0)
  unfolding at_number
  was_shut (shut e f) = (e, f)
  was_shut (open_for e) = absurd (true≢false (sym e ∙ not_again l t (call 33 c) p))

  pub now_open : Sizes c.a0 c.a1
  unfolding at_number
  now_open =
      let h : within 1 8 c.a0 ≡ true = not-false (within 1 8 c.a0) (harts_lawful l t (call 33 c) p) in
      let n : (within 1 4096 c.a1 && fits t c.a1) ≡ true = not-false (within 1 4096 c.a1 && fits t c.a1) (pages_lawful l t (call 33 c) p) in
      open_for (rw (h, and_left (within 1 4096 c.a1) (fits t c.a1) n))
