-- `records::guest::is_first` meets its contract: the tests say which case of `is_new` holds, and of `noted` with it; a page put a second time changes
-- nothing.
-- Assumes nothing.
use Prim.Native.Nat.{◌-◌, ◌<◌}
use mathlib.Core.Path.{◌≡◌, sym, ◌∙◌}
use mathlib.Core.Bool.{true}
use Rattle.sets.specs.Pages.{member_in}
use Rattle.sets.proofs.Bools.{by_test}
use Rattle.rules.specs.Page.{guest_page}
use Prim.Native.Nat.{ℕ}
use mathlib.Core.Bool.{Bool}
use Rattle.rules.specs.declared.Page.{Page}
use Rattle.records.specs.Passes.{offset_of, claims_in, is_new, noted}
use Rattle.records.proofs.Tests.{offset_is}
use Rattle.records.proofs.Meant.{claimed_in, with_again}
use Rattle.records.proofs.guest.is_first.Goals as goal

pub returns-then-not-claims_in : goal.returns-then-not-claims_in
unfolding is_new noted
returns-then-not-claims_in c = let e = sym c.claims_in.ensures ∙ c.if-not-claims_in.true in (rw e, rw e)

-- the offset of a page that is the slot's
mine : (slot first count : ℕ) (p : Page) (claims : Bool) (d : ℕ) → claims ≡ claims_in slot first count p → claims ≡ true → d ≡ offset_of p.guest first
    → (claims_in slot first count p ≡ true) × (d ≡ guest_page p - first) × (guest_page p - first < count)
mine slot first count p claims d e own o =
    let w = claimed_in slot first count p (sym e ∙ own) in
    (sym e ∙ own, o ∙ offset_is p.guest first w.0, w.1)

pub returns : goal.returns
unfolding is_new noted
returns c =
    let x = c.args in
    let m = mine x.slot x.first x.count x.p c.claims_in.result c.offset.result c.claims_in.ensures c.if-not-claims_in.false c.offset.ensures in
    let d = guest_page x.p - x.first in
    let is_new = rw m.1 at c.insert.ensures.is_new in
    let put = rw m.1 at c.insert.ensures.with_it in
    (rw m.0 is_new, rw m.0 (by_test (member_in 64 d x.seen.now) (λ e. rw e (put ∙ with_again 64 d x.seen.now e)) (λ e. rw e put)))
