use mathlib.Core.Path.{◌≡◌, ◌∙◌, ap}
use Rattle.sets.specs.Set.{without, full}
use Rattle.rules.specs.Fence.{begin, number}
use Rattle.rules.specs.Ledger.{with_global, others_of}
use Rattle.rules.specs.Encoding.{view, bits}
use Rattle.rules.proofs.HartSets.{bits_others}
use Rattle.fences.specs.Trackers.{global_of}
use Rattle.effects.proofs.fencing.global_fence.Goals as goal

pub returns : goal.returns
returns c =
    let l = view c.args.l.now in
    let others : bits c.remove-others.result ≡ others_of l c.args.hart =
    ap bits (rw c.number.ensures.is at c.remove-others.ensures ∙ (λ i. without ((c.first.ensures ∙ ap full c.harts-harts.ensures) i) c.args.hart)) ∙ bits_others l.harts c.args.hart in
    let g = c.global-g.ensures in
    (c.how_many.ensures ∙ ap number others, c.set_global.ensures ∙ (λ i. with_global (global_of (c.begun.ensures i)) l) ∙ (λ i. with_global (begin (others i) (g i)) l))
