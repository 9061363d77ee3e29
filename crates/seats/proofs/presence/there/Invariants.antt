use mathlib.Core.Path.{◌≡◌}
use Rattle.rules.specs.Encoding.{view, bits}
use Rattle.rules.proofs.HartSets.{upto}
use Rattle.seats.specs.Harts.{there_of}
use Rattle.seats.proofs.presence.there.Given as goal

abbrev pub invariant-loop-h : goal.invariant-loop-h
invariant-loop-h l = bits l.set ≡ upto (there_of (view l.l) l.k l.vcpu) l.h
