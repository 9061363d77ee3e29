use mathlib.Core.Path.{◌≡◌, ◌∙◌, ap}
use Rattle.rules.specs.Fence.{begin, number}
use Rattle.rules.specs.Ledger.{with_slot, with_fence, insiders_of}
use Rattle.rules.specs.Encoding.{view, bits}
use Rattle.fences.specs.Trackers.{tvm_of}
use Rattle.effects.proofs.fencing.tvm_fence.Goals as goal

pub returns : goal.returns
returns c =
    let l = view c.args.l.now in
    let k = c.args.k in
    let inside : bits c.there-inside.result ≡ insiders_of l k = rw c.number.ensures.is at c.there-inside.ensures in
    let f = rw c.number-2.ensures.is at c.fence-t.ensures in (
      c.how_many.ensures ∙ ap number inside,
      c.set_fence.ensures ∙ (λ i. with_slot k (with_fence (tvm_of (c.begin.ensures i)) (l.slot k)) l) ∙ (λ i. with_slot k (with_fence (begin (inside i) (f i)) (l.slot k)) l),
    )
