use mathlib.Core.Path.{◌≡◌}
use Rattle.tape.proofs.Readings.{Gone}
use Rattle.tape.proofs.reading.run_of.Given as goal

abbrev pub invariant-loop-records : goal.invariant-loop-records
invariant-loop-records l = (l.reader.tape.now ≡ l.tape) × Gone l.tape l.records l.reader.at
