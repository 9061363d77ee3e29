use Prim.Native.Nat.{◌+◌}
use mathlib.Core.Path.{◌≡◌}
use Rattle.rules.specs.Page.{is_meant}
use Rattle.rules.specs.Encoding.{pages_of}
use Rattle.records.specs.Passes.{becomes}
use Rattle.records.proofs.Meant.{Seen, tally}
use Rattle.records.proofs.WritePass.{up_to}
use Rattle.records.proofs.guest.rewrite.Given as goal

abbrev pub invariant-loop-i : goal.invariant-loop-i
invariant-loop-i l =
    (pages_of l.t ≡ up_to (pages_of l.initial.t) (is_meant (pages_of l.initial.t) l.n l.slot l.first l.count) (λ j. becomes l.kind l.slot l.version ((pages_of l.initial.t).page j)) l.i)
    × Seen (pages_of l.initial.t) l.slot l.first l.count l.i l.seen × (l.left + tally l.count l.seen ≡ l.count)
