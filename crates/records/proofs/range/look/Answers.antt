-- `records::range::look` meets its contract. The loop's invariant: no record passed is unwanted, and the flag says whether one is unfinished.
-- Assumes nothing.
use Prim.Native.Nat.{◌+◌}
use mathlib.Core.Path.{◌≡◌, refl}
use mathlib.Core.Bool.{not}
use native.Mathlib.Omega.{arith}
use Rattle.sets.specs.Look.{any}
use Rattle.sets.proofs.Looks.{any_hit, any_more, any_next}
use Rattle.rules.specs.Encoding.{pages_of}
use Rattle.records.specs.Passes.{wanted, range_look}
use Rattle.records.proofs.range.look.Goals as goal

pub loop-i-init : goal.loop-i-init
unfolding any
loop-i-init c = (refl, refl)

pub returns-then-not-is_wanted : goal.returns-then-not-is_wanted
unfolding range_look
returns-then-not-is_wanted c =
    let x = c.args in
    rw (any_hit (λ j. not (wanted x.host ((pages_of x.t.now).page (x.first + j)).kind)) c.loop-i.i x.count c.loop-i-test.true (rw (← c.read-p.ensures, ← c.is_wanted.ensures, c.if-not-is_wanted.true) refl))

pub loop-i-preserved : goal.loop-i-preserved
loop-i-preserved c =
    let read = c.read-p.ensures in (
      any_more _ c.loop-i.i c.loop-i.invariant.0 (rw (← read, ← c.is_wanted.ensures, c.if-not-is_wanted.false) refl),
      rw (any_next, ← read, ← c.is_unfinished-waits.ensures, ← c.loop-i.invariant.1),
    )

pub returns : goal.returns
unfolding range_look
returns c =
    let e : c.loop-i.i ≡ c.args.count = omega arith in
    rw (← e, c.loop-i.invariant.0, ← c.loop-i.invariant.1)
