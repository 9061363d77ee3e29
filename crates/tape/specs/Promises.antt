-- What is proved of the definitions, as statements: reading a tape yields exactly its records, in order, and ends.
use Rattle.std.specs.Prelude.{ℕ, ◌+◌, ◌*◌, ◌≤◌, ◌<◌, ◌^◌, ◌≡◌, List, [], ◌∷◌, ◌++◌, length, drop}
use Rattle.rules.specs.declared.Call.{Call}
use Rattle.rules.specs.Encoding.{Numbers}
use Rattle.tape.specs.declared.record.Step.{Step}
use Rattle.tape.specs.declared.record.Step.TheVariants.{End, Short, Mark, Record}
use Rattle.tape.specs.Tape.{step_at, reading, tape_of}

-- a call that a record has room for
pub record Fits (c : Call) : Type 0 where
  pub number : c.number < 256
  pub hart : c.hart < 256
  pub a0 : c.a0 < 2 ^ 64
  pub a1 : c.a1 < 2 ^ 64
  pub a2 : c.a2 < 2 ^ 64
  pub a3 : c.a3 < 2 ^ 64
  pub a4 : c.a4 < 2 ^ 64
  pub a5 : c.a5 < 2 ^ 64

abbrev pub AllFit : List Call → Type 0
AllFit [] = Unit
AllFit (c ∷ cs) = Fits c × AllFit cs

-- a step that is no good record
abbrev pub Stops : Step → Type 0
Stops End = Unit
Stops Short = Unit
Stops Mark = Unit
Stops (Record call hart next) = ⊥

-- A good record is passed by 52 bytes, and never past the tape's end
abbrev pub Passed : Type 0
Passed = (s : List ℕ) (at call hart next : ℕ) → step_at s at ≡ Record call hart next → (next ≡ at + 52) × (next ≤ length s)

-- Calls written one after the other are read, all of them and in order, and the reading ends as what comes after them says
abbrev pub WrittenIsRead : Type 0
WrittenIsRead =
    (cs : List Call) (after : List ℕ) → AllFit cs → Stops (step_at after 0) → reading (tape_of cs ++ after) ≡ record { calls = cs; ending = step_at after 0 }

-- and where nothing comes after them, the reading reaches the end
abbrev pub WrittenEnds : Type 0
WrittenEnds = (cs : List Call) → AllFit cs → reading (tape_of cs) ≡ record { calls = cs; ending = End }

-- Of any tape: what was read, written again, is its front
abbrev pub ReadIsWritten : Type 0
ReadIsWritten = (s : List ℕ) → Numbers (length s) 256 s → tape_of (reading s).calls ++ drop (52 * length (reading s).calls) s ≡ s

-- and the reading ends within the tape, at a place where no good record stands, and as that place says
abbrev pub ReadingEnds : Type 0
ReadingEnds =
    (s : List ℕ)
    → Stops (reading s).ending × ((reading s).ending ≡ step_at s (52 * length (reading s).calls)) × (52 * length (reading s).calls ≤ length s)
