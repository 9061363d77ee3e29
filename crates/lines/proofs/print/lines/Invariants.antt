use mathlib.Core.Path.{◌≡◌}
use Rattle.rules.specs.Encoding.{state_of}
use Rattle.tape.specs.Tape.{reading}
use Rattle.lines.specs.Lines.{lines_from}
use Rattle.lines.proofs.Printing.{Printing}
use Rattle.lines.proofs.print.lines.Given as goal

abbrev pub invariant-loop-taken : goal.invariant-loop-taken
invariant-loop-taken l =
    (l.reader.tape.now ≡ l.tape)
    × Printing l.tape (lines_from 1 (state_of l.initial.ledger l.initial.table) (reading l.tape)) l.initial.out l.ledger l.table l.number l.reader.at l.end l.out
