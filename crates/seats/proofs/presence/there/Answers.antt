use mathlib.Core.Path.{◌≡◌, sym, ◌∙◌, ap}
use native.Mathlib.Omega.{arith}
use Rattle.rules.specs.Encoding.{view}
use Rattle.rules.proofs.HartSets.{upto, upto_none, upto_with, upto_skip, upto_all}
use Rattle.seats.specs.Harts.{is_there, there_of}
use Rattle.seats.proofs.Seats.{far_outside}
use Rattle.seats.proofs.presence.there.Goals as goal
use Rattle.seats.proofs.presence.there.Goals.{then-is_there, else-is_there}

pub loop-h-init : goal.loop-h-init
loop-h-init c = upto_none _

pub loop-h-preserved : goal.loop-h-preserved
loop-h-preserved c =
    let p = there_of (view c.args.l.now) c.args.k c.args.vcpu in
    let q : p c.loop-h.h ≡ c.is_there.result = sym (c.is_there.ensures ∙ ap (is_there c.args.k c.args.vcpu) c.place_of.ensures) in
    elim c.if-is_there.branch [
      | then-is_there w ↦ rw (w.set-is, w.insert-set.ensures) (upto_with p c.loop-h.h c.loop-h.set c.loop-h.invariant (q ∙ w.if-is_there.true))
      | else-is_there w ↦ rw w.set-is (upto_skip p c.loop-h.h c.loop-h.set c.loop-h.invariant (q ∙ w.if-is_there.false))
    ]

pub returns : goal.returns
returns c =
    let s = c.args in
    let e : c.loop-h.h ≡ 8 = omega arith in
    let p = there_of (view s.l.now) s.k s.vcpu in
    c.loop-h.invariant ∙ ap (upto p) e ∙ upto_all p (λ j l. far_outside s.l.now s.k s.vcpu j l)
