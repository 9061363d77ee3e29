use mathlib.Core.Path.{◌≡◌, ◌∙◌, ap}
use Rattle.rules.specs.Fence.{strike}
use Rattle.rules.specs.Ledger.{with_slot, with_fence}
use Rattle.rules.specs.Encoding.{view}
use Rattle.fences.specs.Trackers.{tvm_of}
use Rattle.fences.proofs.Trackers.{tvm_strike}
use Rattle.effects.proofs.Puts.{past_slots}
use Rattle.effects.proofs.entering.strike_out.Goals as goal

pub returns-then-k-lt16 : goal.returns-then-k-lt16
returns-then-k-lt16 c =
    let l = view c.args.l.now in
    let k = c.args.k in
    let h = c.args.h in
    let struck : tvm_of c.strike.new.self ≡ strike h (l.slot k).fence = ap tvm_of (rw c.number.ensures.is at c.strike.ensures) ∙ tvm_strike c.fence-t.result h ∙ ap (strike h) c.fence-t.ensures in
    rw c.«new».ensures at c.set_fence.ensures ∙ (λ i. with_slot k (with_fence (struck i) (l.slot k)) l)

pub returns-else-k-lt16 : goal.returns-else-k-lt16
returns-else-k-lt16 c = let a = c.args in past_slots a.l.now a.k a.h c.if-k-lt16.false
