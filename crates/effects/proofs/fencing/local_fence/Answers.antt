use mathlib.Core.Path.{◌≡◌, ◌∙◌, ap}
use Rattle.rules.specs.Fence.{strike, number}
use Rattle.rules.specs.Ledger.{with_global}
use Rattle.rules.specs.Encoding.{view}
use Rattle.fences.specs.Trackers.{global_of}
use Rattle.fences.proofs.Trackers.{global-strike}
use Rattle.effects.proofs.fencing.local_fence.Goals as goal

pub returns : goal.returns
returns c =
    let l = view c.args.l.now in
    let h = c.args.hart in
    let struck : global_of c.struck-rest.result ≡ strike h l.global = ap global_of (rw c.number.ensures.is at c.struck-rest.ensures) ∙ global-strike c.global-g.result h ∙ ap (strike h) c.global-g.ensures in
    (c.how_many.ensures ∙ (λ i. number (struck i).awaited), c.set_global.ensures ∙ (λ i. with_global (struck i) l))
