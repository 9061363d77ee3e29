-- A call that nothing refuses, and one that something does, settled.
-- Assumes nothing.
use Prim.Native.Nat.{ℕ, suc}
use mathlib.Core.Path.{◌≡◌, refl, sym, ◌∙◌, ap}
use mathlib.Core.Bool.{Bool, true, false}
use mathlib.Core.List.{List, [], ◌∷◌, ◌++◌}
use Rattle.rules.specs.Page.{Table}
use Rattle.rules.specs.Ledger.{Ledger}
use Rattle.rules.specs.declared.Call.{Call}
use Rattle.rules.specs.declared.numbers.Refusal.{Refusal}
use Rattle.rules.specs.declared.numbers.Refusal.TheVariants.{UnknownCall, NoTvm, WrongPhase, OutOfRange, Address, WrongKind, NotDone, StillAwaited, NoRoom, WrongRegion, AlreadyMapped, Occupied, VersionsSpent, LargeMappingCut, LeftOutside}
use Rattle.rules.specs.Refusals.{early, late, lowest_of, refusal}
use Rattle.rules.specs.Effects.{table, ledger, value}
use Rattle.rules.specs.Step.{Accepted, Refused, Outcome, settle, step}
use Rattle.rules.specs.Answers.{number_of}
use Rattle.ledger.specs.Settled.{state, Settled}

module _ (l : Ledger) (t : Table) (c : Call) where
  pub accepted : (v : ℕ) (l' : Ledger) (t' : Table) → refusal l t c ≡ 0 → v ≡ value l t c → l' ≡ ledger l t c → t' ≡ table l t c → Settled l t c (Accepted v) l' t'
  unfolding step
  accepted v l' t' e f g h =
      let q : settle (refusal l t c) (state l t) c ≡ settle 0 (state l t) c = ap (λ (n : ℕ). settle n (state l t) c) e in
      record { answer = ap Accepted f ∙ sym (ap (λ (o : Outcome). o.answer) q); after = (λ i. state (g i) (h i)) ∙ sym (ap (λ (o : Outcome). o.after) q) }

  -- no refusal has the number 0
  by_number : (why : Refusal) → settle (number_of why) (state l t) c ≡ record { after = state l t; answer = Refused (number_of why) }
  by_number UnknownCall = refl
  by_number NoTvm = refl
  by_number WrongPhase = refl
  by_number OutOfRange = refl
  by_number Address = refl
  by_number WrongKind = refl
  by_number NotDone = refl
  by_number StillAwaited = refl
  by_number NoRoom = refl
  by_number WrongRegion = refl
  by_number AlreadyMapped = refl
  by_number Occupied = refl
  by_number VersionsSpent = refl
  by_number LargeMappingCut = refl
  by_number LeftOutside = refl

  pub refused : (why : Refusal) → number_of why ≡ refusal l t c → Settled l t c (Refused (number_of why)) l t
  unfolding step
  refused why e =
      let n = number_of why in
      let q : settle (refusal l t c) (state l t) c ≡ record { after = state l t; answer = Refused n } = ap (λ (m : ℕ). settle m (state l t) c) (sym e) ∙ by_number why in
      record { answer = sym (ap (λ (o : Outcome). o.answer) q); after = sym (ap (λ (o : Outcome). o.after) q) }

  -- none of the first five, where none holds
  front : (n : ℕ) (bs cs : List Bool) → lowest_of (suc n) (bs ++ cs) ≡ 0 → lowest_of (suc n) bs ≡ 0
  front n [] cs e = refl
  front n (true ∷ bs) cs e = e
  front n (false ∷ bs) cs e = front (suc n) bs cs e

  pub none_early : refusal l t c ≡ 0 → lowest_of 1 (early l t c) ≡ 0
  unfolding refusal
  none_early e = front 0 (early l t c) (late l t c) e
