-- The one rule by which what is reckoned over a history is shown to agree with the ledger and the table: it is enough that each of the 19 calls,
-- accepted, keeps the agreement.
-- Assumes nothing.
use Prim.Native.Nat.{ℕ, zero, suc}
use mathlib.Core.Path.{◌≡◌, refl}
use mathlib.Core.List.{List, [], ◌∷◌}
use native.Mathlib.Omega.{arith}
use Rattle.rules.specs.declared.Call.{Call}
use Rattle.rules.specs.Page.{Table}
use Rattle.rules.specs.Ledger.{Ledger}
use Rattle.rules.specs.Refusals.{refusal, refuses1}
use Rattle.rules.specs.Effects.{table, ledger, value}
use Rattle.rules.specs.Step.{Accepted, State, Outcome, settle, step, run}
use Rattle.history.specs.Demand3.{heed, reckon}
use Rattle.rules.proofs.Accepted.{call, Every, Passed, passed}

module _ {G : Type 0} (f : Call → ℕ → Table → G → G) (I : G → Ledger → Table → Type 0) where
  -- an accepted call c keeps I
  abbrev pub Keeps : G → Ledger → Table → Call → Type 0
  Keeps g l t c = Passed l t c → I (f c (value l t c) (table l t c) g) (ledger l t c) (table l t c)

  abbrev pub EachKeeps : Type 0
  EachKeeps = (g : G) (l : Ledger) (t : Table) (c : Call) → I g l t → Every (λ n. Keeps g l t (call n c))

  module _ (keep : EachKeeps) where
    settled : (g : G) (s : State) (c : Call) → I g s.ledger s.table → (k : ℕ) → refusal s.ledger s.table c ≡ k
        → I (heed f c (settle k s c).answer (settle k s c).after.table g) (settle k s c).after.ledger (settle k s c).after.table
    unfolding refuses1
    settled g s c i zero e =
        let p = passed s.ledger s.table c e in
        keep g s.ledger s.table c i c.number p.p1 p
    settled g s c i (suc k) e = i

    -- one call, and all of them
    pub kept_by : (g : G) (s : State) (c : Call) → I g s.ledger s.table
        → I (heed f c (step s c).answer (step s c).after.table g) (step s c).after.ledger (step s c).after.table
    unfolding step
    kept_by g s c i = settled g s c i (refusal s.ledger s.table c) refl

    pub kept : (g : G) (s : State) (cs : List Call) → I g s.ledger s.table → I (reckon f g s cs) (run s cs).ledger (run s cs).table
    unfolding reckon run
    kept g s [] i = i
    kept g s (c ∷ cs) i = kept (heed f c (step s c).answer (step s c).after.table g) (step s c).after cs (kept_by g s c i)

-- an accepted call has passed all conditions, and what it leaves is what it does
pub record Done (s : State) (c : Call) (o : Outcome) (v : ℕ) : Type 0 where
  pub passes : Passed s.ledger s.table c
  pub ledger-is : o.after.ledger ≡ ledger s.ledger s.table c
  pub table_is : o.after.table ≡ table s.ledger s.table c
  pub value-is : value s.ledger s.table c ≡ v

pub accepted : (s : State) (c : Call) (v : ℕ) → (step s c).answer ≡ Accepted v → Done s c (step s c) v
unfolding step
accepted s c v a = go (refusal s.ledger s.table c) refl a
  where
    go : (k : ℕ) → refusal s.ledger s.table c ≡ k → (settle k s c).answer ≡ Accepted v → Done s c (settle k s c) v
    go zero e q = record { passes = passed s.ledger s.table c e; ledger-is = refl; table_is = refl; value-is = cc }
    go (suc k) e q = let z : ◌≡◌ {A = ℕ} 0 1 = cc in absurd (omega arith)
