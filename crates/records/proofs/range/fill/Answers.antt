-- `records::range::fill` meets its contract: a pass that writes every record of its part.
-- Assumes nothing.
use mathlib.Core.Path.{◌≡◌, refl, ◌∙◌, ap}
use mathlib.Core.Bool.{true}
use native.Mathlib.Omega.{arith}
use lib.Dec.{ltb}
use Rattle.sets.proofs.Bools.{and_true}
use Rattle.rules.specs.Encoding.{pages_of}
use Rattle.records.specs.Passes.{stepped}
use Rattle.records.proofs.WritePass.{pass_put, over_ext}
use Rattle.records.proofs.range.fill.Goals as goal

pub loop-i-preserved : goal.loop-i-preserved
loop-i-preserved c =
    let x = c.args in
    c.write.ensures
    ∙ rw c.page_of.ensures (pass_put (pages_of x.part.now) (λ j. true) (stepped x.p x.step) c.loop-i.i _ c.loop-i.invariant refl)

pub returns : goal.returns
returns c =
    let e : c.loop-i.i ≡ c.args.count = omega arith in
    c.loop-i.invariant ∙ over_ext _ _ _ _ (λ j. and_true (ltb j c.loop-i.i) ∙ ap (ltb j) e)
