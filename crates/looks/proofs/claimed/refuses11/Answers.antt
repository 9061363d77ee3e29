use Prim.Native.Nat.{◌+◌, ◌/◌}
use mathlib.Core.Path.{sym, ◌∙◌}
use native.Mathlib.Omega.{arith}
use lib.Dec.{ltb}
use borrow.Author.Rules.{rules}
use Rattle.sets.specs.Look.{any}
use Rattle.rules.specs.Page.{meant}
use Rattle.rules.specs.Refusals.{refuses11}
use Rattle.rules.specs.Encoding.{view, pages_of}
use Rattle.door.proofs.Ready.{typed_tvm, typed_guest, typed_not_9, guest_not_open, tvm_fits, guest_fits, pages_fit, all_records}
use Rattle.looks.proofs.claimed.refuses11.Goals as goal

pub overflow_cast-tvm : goal.overflow_cast-tvm
overflow_cast-tvm c = let h = tvm_fits c.requires (typed_tvm _ (sym c.names.ensures ∙ c.if-names.true)) in search rules

pub overflow_cast-first : goal.overflow_cast-first
overflow_cast-first c = let h = guest_fits c.requires (typed_guest _ (sym c.names.ensures ∙ c.if-names.true)) in search rules

pub overflow_cast-pages : goal.overflow_cast-pages
overflow_cast-pages c = let h = pages_fit c.requires (typed_not_9 _ (sym c.names.ensures ∙ c.if-names.true)) in search rules

pub any_claimed-requires : goal.any_claimed-requires
any_claimed-requires c =
    let r = c.requires in
    let g = typed_guest _ (sym c.names.ensures ∙ c.if-names.true) in
    (omega (arith, all_records r (guest_not_open _ g), c.pages-total.ensures), rw c.arg-first.ensures (guest_fits r g))

pub returns-then-names : goal.returns-then-names
unfolding refuses11
returns-then-names c =
    let l = view c.args.l.now in
    let t = pages_of c.args.t.now in
    let n = sym c.names.ensures ∙ c.if-names.true in
    c.any_claimed.ensures
    ∙ (λ i. any (λ d. ltb (meant t (c.pages-total.ensures i) (c.arg-tvm.ensures i) (c.arg-first.ensures i / 4096 + d)) (c.pages-total.ensures i)) (c.requires.sized i)) ∙ rw n

pub returns : goal.returns
unfolding refuses11
returns c = rw (sym c.names.ensures ∙ c.if-names.false)
