use mathlib.Core.Path.{◌≡◌}
use Rattle.rules.specs.Ledger.{with_slot, slot}
use Rattle.rules.specs.Encoding.{view}
use Rattle.effects.proofs.Puts.{cleared_to}
use Rattle.effects.proofs.slots.clear_regions.Given as goal

abbrev pub invariant-loop-i : goal.invariant-loop-i
invariant-loop-i l = view l.l ≡ with_slot l.k (slot ((view l.initial.l).slot l.k).phase ((view l.initial.l).slot l.k).fence ((view l.initial.l).slot l.k).made (cleared_to l.i ((view l.initial.l).slot l.k).region)) (view l.initial.l)
