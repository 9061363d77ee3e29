-- A call on the typed ledger and table, as its code takes it: the call put together, and settled.
use Rattle.std.specs.Prelude.{ℕ, ◌≡◌, false, [], ◌∷◌, eqb}
use Rattle.sets.specs.Terms.{any_in}
use Rattle.rules.specs.Page.{Table}
use Rattle.rules.specs.Ledger.{Ledger}
use Rattle.rules.specs.declared.Call.{Call}
use Rattle.rules.specs.Refusals.{refusal}
use Rattle.rules.specs.Effects.{value, ledger}
use Rattle.rules.specs.Step.{Answer, State, step}

abbrev pub call_with : ℕ → ℕ → ℕ → ℕ → ℕ → ℕ → ℕ → ℕ → Call
call_with number hart a0 a1 a2 a3 a4 a5 = record { number = number; hart = hart; a0 = a0; a1 = a1; a2 = a2; a3 = a3; a4 = a4; a5 = a5 }

abbrev pub state : Ledger → Table → State
state l t = record { ledger = l; table = t }

pub record Settled (l : Ledger) (t : Table) (c : Call) (a : Answer) (l' : Ledger) (t' : Table) : Type 0 where
  pub answer : a ≡ (step (state l t) c).answer
  pub after : state l' t' ≡ (step (state l t) c).after

-- ---- the parts of an accepted call
-- nothing refuses the call, on some table
abbrev pub Lawful : Ledger → Call → Type 0
Lawful l c = (t : Table) × (refusal l t c ≡ 0)

-- the value and the ledger are the call's; no table matters to either
abbrev pub Kept : Ledger → Call → ℕ → Ledger → Type 0
Kept l c r l' = (t : Table) → (r ≡ value l t c) × (l' ≡ ledger l t c)

-- none of the calls that have a value
abbrev pub InSlots : Call → Type 0
InSlots c = any_in (eqb c.number) (3 ∷ 4 ∷ 5 ∷ 15 ∷ 16 ∷ 32 ∷ []) ≡ false
