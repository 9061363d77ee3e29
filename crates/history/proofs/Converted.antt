-- A page that was converted waits, until it changes kind, exactly until each hart but the caller of the first global fence has fenced locally.
-- Assumes nothing.
use Prim.Native.Nat.{ℕ}
use mathlib.Core.Path.{◌≡◌, refl, sym, subst, ◌∙◌, ap}
use mathlib.Core.Bool.{Bool, true, false, cond, not, ◌&&◌, true≢false}
use native.Mathlib.Omega.{arith}
use lib.Dec.{ltb, eqb}
use Rattle.sets.specs.Terms.{within}
use Rattle.sets.proofs.Bools.{or_left, or_false}
use Rattle.rules.specs.declared.Call.{Call}
use Rattle.rules.specs.Page.{Table, page}
use Rattle.rules.specs.Fence.{someone, done}
use Rattle.rules.specs.Ledger.{Ledger, is_open, others_of}
use Rattle.rules.specs.Calls.{index}
use Rattle.rules.specs.Refusals.{taken}
use Rattle.rules.specs.Effects.{table, ledger, writes}
use Rattle.rules.specs.Step.{State}
use Rattle.history.specs.Demand3.{after, Watch, globally, watching, not_done, ConvertedWaits}
use Rattle.rules.proofs.Accepted.{call, Passed, not_again, at_number}
use Rattle.history.proofs.Runs.{accepted}
use Rattle.history.proofs.Spans.{host_ordinary}
use Rattle.history.proofs.Seats.{open_then}
use Rattle.history.proofs.Watch.{before, inv_begin, inv_strike}
use Rattle.history.proofs.Waiting.{Live, I, Fate, EachFate, waits}

module _ (p r : ℕ) where
  module _ (w : Watch) (l : Ledger) (t : Table) (c : Call) (s : I globally (λ l. l.global) 1 p 0 r w l t) where
    abbrev Ends : ℕ → Type 0
    Ends n = Fate globally (λ l. l.global) 1 p 0 r w l t (call n c)

    by1 : Passed l t (call 1 c) → Ends 1
    unfolding at_number watching
    by1 q = record { other = λ o e. absurd (omega (arith, o.kind_is, host_ordinary l t (call 1 c) q p e)); moves_on = λ o e. o.inv }

    by3 : Passed l t (call 3 c) → Ends 3
    unfolding at_number watching
    by3 q = record {
      other = λ o e. refl;
      moves_on = λ o e. inv_begin r l.global w.begun w.owing (others_of l c.hart) (λ j. ltb j w.seats.harts && not (eqb j c.hart))
          (λ j. rw s.sits.harts_are) (or_left (someone l.global.awaited) false q.p8) o.inv;
    }

    not_one : (b : Bool) → eqb (page (cond b 3 4) (taken l) 0 0).kind 1 ≡ false
    not_one true = refl
    not_one false = refl

  fates : EachFate globally (λ l. l.global) 1 p 0 r
  unfolding at_number watching
  fates w l t c s = record {
    convert = by1 w l t c s;
    reclaim = λ q. record { other = λ o e. refl; moves_on = λ o e. o.inv };
    global-fence = by3 w l t c s;
    local_fence = λ q. record { other = λ o e. refl; moves_on = λ o e. inv_strike r l.global w.begun w.owing c.hart o.inv };
    create = λ q. record { other = λ o e. not_one w l t c s (within (index c.a0) 4 p); moves_on = λ o e. o.inv };
    finalize = λ q. record { other = λ o e. refl; moves_on = λ o e. o.inv };
    destroy = λ q. record { other = λ o e. refl; moves_on = λ o e. o.inv };
    region = λ q. record { other = λ o e. refl; moves_on = λ o e. o.inv };
    pool = λ q. record { other = λ o e. refl; moves_on = λ o e. o.inv };
    measured = λ q. record { other = λ o e. refl; moves_on = λ o e. o.inv };
    zeros = λ q. record { other = λ o e. refl; moves_on = λ o e. o.inv };
    vcpu = λ q. record { other = λ o e. refl; moves_on = λ o e. o.inv };
    enter = λ q. record { other = λ o e. refl; moves_on = λ o e. o.inv };
    tvm_fence = λ q. record { other = λ o e. refl; moves_on = λ o e. o.inv };
    invalidate = λ q. record { other = λ o e. refl; moves_on = λ o e. o.inv };
    validate = λ q. record { other = λ o e. refl; moves_on = λ o e. o.inv };
    remove = λ q. record { other = λ o e. refl; moves_on = λ o e. o.inv };
    leave = λ q. record { other = λ o e. refl; moves_on = λ o e. o.inv };
    open_ledger = λ q. absurd (true≢false (sym s.still_open ∙ not_again l t (call 33 c) q));
  }

-- the call that converted it
abbrev Starts : ℕ → Ledger → Table → Call → Type 0
Starts p l t d = Passed l t d → eqb (t.page p).kind 1 ≡ false → eqb ((table l t d).page p).kind 1 ≡ true
    → (is_open (ledger l t d) ≡ true) × Live 1 0 l.global.version (ledger l t d).global false (λ j. false) ((table l t d).page p)

starts : (p : ℕ) (l : Ledger) (t : Table) (c : Call) → Starts p l t (call 1 c)
unfolding at_number
starts p l t c q old now = (open_then l t (call 1 c) q refl, go (writes l t (call 1 c) p) now)
  where
    go : (b : Bool) → eqb (cond b (page 1 0 l.global.version 0) (t.page p)).kind 1 ≡ true
        → Live 1 0 l.global.version l.global false (λ j. false) (cond b (page 1 0 l.global.version 0) (t.page p))
    go true e = record { kind_is = refl; slot_is = refl; version-is = refl; inv = before refl refl }
    go false e = absurd (true≢false (sym e ∙ old))

by_global : (p : ℕ) (s : State) → (s.table.page p).kind ≡ 1 → (s.table.page p).slot ≡ 0 → not_done s.ledger (s.table.page p) ≡ not (done s.ledger.global (s.table.page p).version)
unfolding not_done
by_global p s e f = rw e (or_false _)

pub converted_waits : ConvertedWaits
converted_waits t cs c p ds n turned =
    let s : State = after t cs in
    let d = accepted s c turned.value turned.accepted in
    let first = subst (Starts p s.ledger s.table) (ap (λ k. call k c) (sym n)) (starts p s.ledger s.table c) d.passes turned.before (rw d.table_is at turned.now) in
    let r = s.ledger.global.version in
    waits globally (λ l. l.global) 1 p 0 r (fates p r) (by_global p) t cs c ds turned (rw d.ledger-is first.0) (rw (d.ledger-is, d.table_is) first.1)
