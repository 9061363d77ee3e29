use mathlib.Core.Path.{◌≡◌}
use mathlib.Core.Bool.{true}
use Rattle.rules.specs.Encoding.{pages_of}
use Rattle.records.specs.Passes.{stepped}
use Rattle.records.proofs.WritePass.{up_to}
use Rattle.records.proofs.range.fill.Given as goal

abbrev pub invariant-loop-i : goal.invariant-loop-i
invariant-loop-i l = pages_of l.part ≡ up_to (pages_of l.initial.part) (λ j. true) (stepped l.p l.step) l.i
