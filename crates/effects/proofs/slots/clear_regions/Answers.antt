use mathlib.Core.Path.{◌≡◌, ◌∙◌}
use native.Mathlib.Omega.{arith}
use Rattle.rules.specs.Ledger.{with_slot, slot}
use Rattle.rules.specs.Encoding.{view}
use Rattle.effects.proofs.Puts.{cleared_to, cleared_all}
use Rattle.effects.proofs.slots.clear_regions.Goals as goal

pub returns : goal.returns
returns c =
    let v = view c.args.l.now in
    let k = c.args.k in
    let s = v.slot k in
    let e : c.loop-i.i ≡ 8 = omega arith in
    c.loop-i.invariant
    ∙ (λ i. with_slot k (slot s.phase s.fence s.made (cleared_to (e i) s.region)) v)
    ∙ (λ i. with_slot k (slot s.phase s.fence s.made (cleared_all c.args.l.now k i)) v)
