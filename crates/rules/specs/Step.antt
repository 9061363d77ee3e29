-- One call, and a run of calls.
use Rattle.std.specs.Prelude.{ℤ, pos, neg_ℤ, ℕ, zero, suc, List, [], ◌∷◌, map, get_or}
use Rattle.rules.specs.Page.{Table}
use Rattle.rules.specs.Ledger.{Ledger, opened}
use Rattle.rules.specs.Calls.{Call}
use Rattle.rules.specs.Refusals.{refusal}
use Rattle.rules.specs.Effects.{table, ledger, value}

-- an accepted call's value, or the number of the refusal
pub data Answer : Type 0 where
  Accepted : ℕ → Answer
  Refused : ℕ → Answer

-- "The error is looked up from the number": 0 for an accepted call, then those of refusals 1 to 15, negative
abbrev pub errors : List ℤ
errors = map (λ n. neg_ℤ (pos n)) (0 ∷ 2 ∷ 3 ∷ 3 ∷ 3 ∷ 5 ∷ 5 ∷ 1 ∷ 7 ∷ 1 ∷ 5 ∷ 5 ∷ 4 ∷ 1 ∷ 5 ∷ 3 ∷ [])

-- "A refusal returns the error and, as value, the number"
abbrev pub error_of : Answer → ℤ
error_of (Accepted v) = pos 0
error_of (Refused n) = get_or errors n (pos 0)

abbrev pub value_of : Answer → ℕ
value_of (Accepted v) = v
value_of (Refused n) = n

pub record State : Type 0 where
  pub ledger : Ledger
  pub table : Table

pub record Outcome : Type 0 where
  pub after : State
  pub answer : Answer

-- what becomes of a call once its refusal number is known; on a refusal "nothing is written"
abbrev pub settle : ℕ → State → Call → Outcome
settle zero s c = record {
  after = record { ledger = ledger s.ledger s.table c; table = table s.ledger s.table c };
  answer = Accepted (value s.ledger s.table c);
}
settle (suc n) s c = record { after = s; answer = Refused (suc n) }

unfoldable pub step : State → Call → Outcome
step s c = settle (refusal s.ledger s.table c) s c

-- a ledger that is not open, and any lent table; calls one after the other, each on what the last left
abbrev pub unopened : Table → State
unopened t = record { ledger = opened 0 0; table = t }

unfoldable pub run : State → List Call → State
run s [] = s
run s (c ∷ cs) = run (step s c).after cs

unfoldable pub answers : State → List Call → List Answer
answers s [] = []
answers s (c ∷ cs) = (step s c).answer ∷ answers (step s c).after cs
