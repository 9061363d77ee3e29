use mathlib.Core.Path.{◌∙◌, ap}
use mathlib.Core.Bool.{true}
use Rattle.sets.specs.Terms.{put}
use Rattle.rules.specs.Ledger.{with_slot, slot}
use Rattle.rules.specs.Encoding.{view, bits}
use Rattle.rules.proofs.HartSets.{bits-with}
use Rattle.effects.proofs.slots.make_vcpu.Goals as goal

pub returns : goal.returns
returns c =
    let l = view c.args.l.now in
    let k = c.args.k in
    let v = c.args.v in
    let made = ap bits (rw c.number-3.ensures.is at c.insert.ensures) ∙ bits-with c.made-made.result v ∙ ap (put v true) (rw c.number-2.ensures.is at c.made-made.ensures) in
    let fence = rw c.number.ensures.is at c.fence-t.ensures in
    c.set_made.ensures ∙ (λ i. with_slot k (slot (l.slot k).phase (fence i) (made i) (l.slot k).region) l)
