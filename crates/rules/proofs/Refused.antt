-- A refused step leaves ledger and table as they were; an accepted one, the records that it does not name.
-- Assumes nothing.
use Prim.Native.Nat.{ℕ, zero, suc}
use mathlib.Core.Bool.{false}
use mathlib.Core.Path.{◌≡◌, refl}
use native.Mathlib.Omega.{arith}
use Rattle.rules.specs.Calls.{Call}
use Rattle.rules.specs.Refusals.{refusal}
use Rattle.rules.specs.Effects.{writes, table}
use Rattle.rules.specs.Step.{Accepted, Refused, State, settle, step}
use Rattle.rules.specs.Promises.{RefusedChangesNothing}

by_number : (k : ℕ) (s : State) (c : Call) (n : ℕ) → (settle k s c).answer ≡ Refused n → (settle k s c).after ≡ s
by_number zero s c n e = let z : ◌≡◌ {A = ℕ} 0 1 = cc in absurd (omega arith)
by_number (suc k) s c n e = refl

pub refused_changes_nothing : RefusedChangesNothing
unfolding step
refused_changes_nothing s c n e = by_number (refusal s.ledger s.table c) s c n e

others : (k : ℕ) (s : State) (c : Call) (v i : ℕ) → (settle k s c).answer ≡ Accepted v → writes s.ledger s.table c i ≡ false → (settle k s c).after.table.page i ≡ s.table.page i
unfolding table
others zero s c v i e h = rw h
others (suc k) s c v i e h = let z : ◌≡◌ {A = ℕ} 0 1 = cc in absurd (omega arith)

pub unwritten : (s : State) (c : Call) (v i : ℕ) → (step s c).answer ≡ Accepted v → writes s.ledger s.table c i ≡ false → (step s c).after.table.page i ≡ s.table.page i
unfolding step
unwritten s c v i e h = others (refusal s.ledger s.table c) s c v i e h
