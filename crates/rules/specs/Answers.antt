-- What the code answers: a value, or why the call is refused. The number of each refusal, and the answer that a result stands for.
use Rattle.std.specs.Prelude.{ℕ, Result, Ok, Err}
use Rattle.rules.specs.Step.{Answer, Accepted, Refused}
pub use Rattle.rules.specs.declared.numbers.Refusal.{Refusal}
pub use Rattle.rules.specs.declared.numbers.Refusal.TheVariants.{UnknownCall, NoTvm, WrongPhase, OutOfRange, Address, WrongKind, NotDone, StillAwaited, NoRoom, WrongRegion, AlreadyMapped, Occupied, VersionsSpent, LargeMappingCut, LeftOutside}

-- document 01, "Refusal numbers"
abbrev pub number_of : Refusal → ℕ
number_of UnknownCall = 1
number_of NoTvm = 2
number_of WrongPhase = 3
number_of OutOfRange = 4
number_of Address = 5
number_of WrongKind = 6
number_of NotDone = 7
number_of StillAwaited = 8
number_of NoRoom = 9
number_of WrongRegion = 10
number_of AlreadyMapped = 11
number_of Occupied = 12
number_of VersionsSpent = 13
number_of LargeMappingCut = 14
number_of LeftOutside = 15

abbrev pub answer_of : Result ℕ Refusal → Answer
answer_of (Ok value) = Accepted value
answer_of (Err why) = Refused (number_of why)

-- the number that is given; 0 where none is
abbrev pub given : {A : Type 0} → Result A Refusal → ℕ
given (Ok x) = 0
given (Err why) = number_of why

-- and what one stands for that has the number itself, whatever it is
abbrev pub answer_by : Result ℕ ℕ → Answer
answer_by (Ok value) = Accepted value
answer_by (Err number) = Refused number
