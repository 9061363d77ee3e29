use Prim.Native.Nat.{◌+◌}
use mathlib.Core.Path.{◌≡◌}
use mathlib.Core.Bool.{false, not}
use Rattle.sets.specs.Look.{any}
use Rattle.rules.specs.Encoding.{pages_of}
use Rattle.fences.specs.Trackers.{global_of}
use Rattle.records.specs.Passes.{wanted, unfinished}
use Rattle.records.proofs.range.look.Given as goal

abbrev pub invariant-loop-i : goal.invariant-loop-i
invariant-loop-i l =
    (any (λ j. not (wanted l.host ((pages_of l.t).page (l.first + j)).kind)) l.i ≡ false) × (l.waits ≡ any (λ j. unfinished (global_of l.fence) ((pages_of l.t).page (l.first + j))) l.i)
