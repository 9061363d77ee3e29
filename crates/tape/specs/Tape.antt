-- Document 01, "The tape and its printer": what stands at an offset of a tape, what a record asks, and the reading of a tape from its start.
use Rattle.std.specs.Prelude.{take, ℕ, zero, suc, ◌+◌, ◌-◌, ◌*◌, ◌/◌, ◌%◌, Bool, cond, ◌&&◌, List, [], ◌∷◌, ◌++◌, ltb, leb, eqb, length, get_or, drop}
use Rattle.rules.specs.declared.Call.{Call}
use Rattle.tape.specs.declared.record.Step.{Step}
use Rattle.tape.specs.declared.record.Step.TheVariants.{End, Short, Mark, Record}
use Rattle.tape.specs.declared.reader.Reader.{Reader}
use Rattle.tape.specs.declared.reading.Run.{Run}

-- ---- at an offset
-- "the mark 43 56 (hex)"
abbrev pub marked : List ℕ → ℕ → Bool
marked s at = eqb (get_or s at 0) 0x43 && eqb (get_or s (at + 1) 0) 0x56

-- "Fewer than 52 bytes left (but not 0) is "short", a wrong mark is "mark"; short is tested first." Else "call (1 byte), hart (1 byte)", and
-- the offset past the record, which "is 52 bytes"
abbrev pub step_at : List ℕ → ℕ → Step
step_at s at =
    cond (leb (length s) at) End
    (cond (ltb (length s - at) 52) Short
    (cond (marked s at) (Record (get_or s (at + 2) 0) (get_or s (at + 3) 0) (at + 52)) Mark))

-- only a good record is passed
abbrev pub after_of : Step → ℕ → ℕ
after_of End at = at
after_of Short at = at
after_of Mark at = at
after_of (Record call hart next) at = next

-- "For a good record it hands back the 48 argument bytes as that part of the tape"; there are none elsewhere
abbrev pub part_of : Step → List ℕ → List ℕ
part_of End part = []
part_of Short part = []
part_of Mark part = []
part_of (Record call hart next) part = part

abbrev pub args_at : List ℕ → ℕ → List ℕ
args_at s at = part_of (step_at s at) (take 48 (drop (at + 4) s))

-- "a0 to a5 (8 bytes each, little endian)": the number that bytes make, the lowest first, and that of the eight bytes from k on
abbrev pub little : List ℕ → ℕ
little [] = 0
little (b ∷ bs) = b + 256 * little bs

abbrev pub word : List ℕ → ℕ → ℕ
word s k = little (take 8 (drop k s))

abbrev pub call_of : ℕ → ℕ → List ℕ → Call
call_of call hart args =
    record {
      number = call;
      hart = hart;
      a0 = word args 0;
      a1 = word args 8;
      a2 = word args 16;
      a3 = word args 24;
      a4 = word args 32;
      a5 = word args 40;
    }

-- ---- a reader
-- "remembers its place": the step there, and the reader past it, over the same tape
abbrev pub step_of : Reader → Step
step_of r = step_at r.tape.now r.at

abbrev pub moved_on : Reader → Reader
moved_on r = record { tape = r.tape; at = after_of (step_of r) r.at }

-- ---- a whole tape
-- what its good records ask, in order, and what ends the run
pub record Reading : Type 0 where
  pub calls : List Call
  pub ending : Step

-- "Either way a record that doesn't read ends the run": what a step adds to the reading from after it
abbrev pub onward : Step → List ℕ → Reading → Reading
onward End args r = record { calls = []; ending = End }
onward Short args r = record { calls = []; ending = Short }
onward Mark args r = record { calls = []; ending = Mark }
onward (Record call hart next) args r = record { calls = call_of call hart args ∷ r.calls; ending = r.ending }

-- from an offset on, `most` records at most
unfoldable pub read_from : ℕ → List ℕ → ℕ → Reading
read_from zero s at = record { calls = []; ending = step_at s at }
read_from (suc most) s at = onward (step_at s at) (args_at s at) (read_from most s (at + 52))

-- from the start: a tape has no more records than its bytes make room for
abbrev pub reading : List ℕ → Reading
reading s = read_from (length s / 52) s 0

abbrev pub run_of : List ℕ → Run
run_of s = record { records = length (reading s).calls; end = (reading s).ending }

-- ---- the other way: a tape written
-- n in `size` bytes, the lowest first
abbrev pub bytes : ℕ → ℕ → List ℕ
bytes zero n = []
bytes (suc size) n = n % 256 ∷ bytes size (n / 256)

-- "A record is 52 bytes: the mark 43 56 (hex), call (1 byte), hart (1 byte), a0 to a5 (8 bytes each, little endian)."
unfoldable pub written : Call → List ℕ
written c =
    0x43 ∷ 0x56 ∷ c.number ∷ c.hart
    ∷ bytes 8 c.a0 ++ (bytes 8 c.a1 ++ (bytes 8 c.a2 ++ (bytes 8 c.a3 ++ (bytes 8 c.a4 ++ bytes 8 c.a5))))

unfoldable pub tape_of : List Call → List ℕ
tape_of [] = []
tape_of (c ∷ cs) = written c ++ tape_of cs
