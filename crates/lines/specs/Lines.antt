-- Document 01, "The tape and its printer": what the program prints, from the bytes of a tape. Assumes nothing.
use Rattle.std.specs.Prelude.{ℤ, replicate, take, ℕ, suc, ◌*◌, ◌≡◌, cond, List, [], ◌∷◌, ◌++◌, ltb, leb, length, drop}
use Rattle.rules.specs.declared.Call.{Call}
use Rattle.rules.specs.Step.{Answer, State, error_of, value_of, unopened, answers}
use Rattle.rules.specs.Encoding.{pages_of}
use Rattle.tape.specs.declared.record.Step.{Step}
use Rattle.tape.specs.declared.record.Step.TheVariants.{End, Short, Mark, Record}
use Rattle.tape.specs.Tape.{Reading, reading}
use Rattle.lines.specs.Text.{decimal, signed, blank, newline}

-- "a line for each record: number from 1, call, error, value, single blanks"
abbrev pub told : ℤ → ℕ → List ℕ
told error value = signed error ++ blank ++ decimal value ++ newline

unfoldable pub line : ℕ → ℕ → Answer → List ℕ
line number call answer = decimal number ++ blank ++ decimal call ++ blank ++ told (error_of answer) (value_of answer)

-- "A bad record prints its number and `short` or `mark`"
abbrev pub short : List ℕ
short = 115 ∷ 104 ∷ 111 ∷ 114 ∷ 116 ∷ []

abbrev pub mark : List ℕ
mark = 109 ∷ 97 ∷ 114 ∷ 107 ∷ []

abbrev pub noted : ℕ → List ℕ → List ℕ
noted number word = decimal number ++ blank ++ word ++ newline

abbrev pub bad : ℕ → Step → List ℕ
bad number End = []
bad number Short = noted number short
bad number Mark = noted number mark
bad number (Record call hart next) = []

-- the lines of the records from `number` on, with what each was answered, and of the bad record after them
unfoldable pub lines : ℕ → List Call → List Answer → Step → List ℕ
lines number [] answered ending = bad number ending
lines number (c ∷ cs) [] ending = bad number ending
lines number (c ∷ cs) (a ∷ answered) ending = line number c.number a ++ lines (suc number) cs answered ending

abbrev pub lines_from : ℕ → State → Reading → List ℕ
lines_from number s r = lines number r.calls (answers s r.calls) r.ending

-- "Its table has 4,096 records, of which it hands on as many as the first record's a1 (0 if above 4,096)."
abbrev pub handed : List Call → ℕ
handed [] = 0
handed (c ∷ cs) = cond (leb c.a1 4096) c.a1 0

-- a ledger that is not open, and so many records of zero bytes
unfoldable pub zeros : ℕ → List ℕ
zeros bytes = replicate bytes 0

abbrev pub start : ℕ → State
start records = unopened (pages_of (zeros (8 * records)))

-- "a longer tape prints `long` and nothing else; an empty one prints nothing"
abbrev pub long : List ℕ
long = 108 ∷ 111 ∷ 110 ∷ 103 ∷ []

unfoldable pub printed : List ℕ → List ℕ
printed tape =
    cond (ltb 65536 (length tape)) (long ++ newline) (lines_from 1 (start (handed (reading tape).calls)) (reading tape))

-- the first `end` bytes became what is printed, and no byte after them changed
pub record Printed (tape before : List ℕ) (end : ℕ) (after : List ℕ) : Type 0 where
  pub size : end ≡ length (printed tape)
  pub first : take end after ≡ printed tape
  pub rest : drop end after ≡ drop end before
