-- Document 01, "The tape and its printer": what a reader takes.
use Rattle.std.specs.Prelude.{◌+◌, ◌≡◌, Option, MatchOption}
use Rattle.tape.specs.declared.record.Step.TheVariants.{Record}
use Rattle.tape.specs.declared.reader.Reader.{Reader}
use Rattle.tape.specs.declared.reader.Taken.{Taken}
use Rattle.tape.specs.Tape.{args_at, step_of, moved_on}
use Rattle.tape.specs.Promises.{Stops}

-- of the good record at its place the call, the hart and "the 48 argument bytes as that part of the tape", and the reader is past it; where no good
-- record stands nothing, and the reader stays
abbrev pub Takes : Reader → Option Taken → Reader → Type 0
Takes r taken r' =
    (r' ≡ moved_on r)
    × MatchOption taken (Stops (step_of r)) (λ t. (step_of r ≡ Record t.call t.hart (r.at + 52)) × (t.args.now ≡ args_at r.tape.now r.at))
