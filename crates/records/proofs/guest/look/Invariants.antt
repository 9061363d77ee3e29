use Rattle.rules.specs.Encoding.{pages_of}
use Rattle.fences.specs.Trackers.{tvm_of}
use Rattle.records.proofs.GuestLook.{Looked}
use Rattle.records.proofs.guest.look.Given as goal

abbrev pub invariant-loop-i : goal.invariant-loop-i
invariant-loop-i l =
    Looked (pages_of l.t) l.n l.slot l.first l.count l.kind (tvm_of l.fence) l.i l.seen l.missing l.undone l.cut
