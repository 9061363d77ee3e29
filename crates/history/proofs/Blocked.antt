-- A page that was blocked waits, until it changes kind, exactly until each hart that was inside its TVM at the first fence on it has left.
-- Assumes nothing.
use Prim.Native.Nat.{ℕ}
use mathlib.Core.Path.{◌≡◌, refl, sym, subst, ◌∙◌, ap}
use mathlib.Core.Bool.{Bool, true, false, cond, not, ◌&&◌, ◌||◌, true≢false}
use native.Mathlib.Omega.{arith}
use lib.Dec.{eqb}
use borrow.Author.Tests.{eqb-true, not-false}
use Rattle.sets.specs.Terms.{within, put}
use Rattle.sets.proofs.Bools.{and_right}
use Rattle.rules.specs.declared.Call.{Call}
use Rattle.rules.specs.declared.Role.TheVariants.{Tvm}
use Rattle.rules.specs.Page.{Table, page, moved, guest_page}
use Rattle.rules.specs.Fence.{begin, done}
use Rattle.rules.specs.Ledger.{Ledger, Slot, is_open, is_in_slot, insiders_of, with_fence}
use Rattle.rules.specs.Calls.{arg, index, size, first_guest}
use Rattle.rules.specs.Refusals.{taken, the_one, mapped}
use Rattle.rules.specs.Effects.{table, ledger, writes, destroyed}
use Rattle.rules.specs.Step.{State}
use Rattle.history.specs.Demand3.{after, Watch, for_tvm, watching, not_done, BlockedWaits}
use Rattle.rules.proofs.Accepted.{call, Passed, not_again, as_wanted, at_number}
use Rattle.history.proofs.Runs.{accepted}
use Rattle.history.proofs.Spans.{at_guest, meant_is, put_field}
use Rattle.history.proofs.Seats.{open_then}
use Rattle.history.proofs.Marks.{left_slot, left-slot}
use Rattle.history.proofs.Watch.{Inv, before, inv_begin, inv_strike}
use Rattle.history.proofs.Waiting.{Live, I, Old, Fate, EachFate, waits}

module _ (p k r : ℕ) where
  module _ (w : Watch) (l : Ledger) (t : Table) (c : Call) (s : I (for_tvm k) (λ l. (l.slot k).fence) 8 p k r w l t) where
    abbrev Ends : ℕ → Type 0
    Ends n = Fate (for_tvm k) (λ l. (l.slot k).fence) 8 p k r w l t (call n c)

    abbrev Before : Type 0
    Before = Old (for_tvm k) (λ l. (l.slot k).fence) 8 p k r w l t

    -- a slot put anew with the fence that it had
    with-fence : (x : ℕ) (y : Slot) → y.fence ≡ (l.slot x).fence → Before → Inv r (put x y l.slot k).fence w.begun w.owing
    with-fence x y e o = subst (λ f. Inv r f w.begun w.owing) (sym (put_field (λ (z : Slot). z.fence) x y l.slot e k)) o.inv

    not_eight : (b : Bool) → eqb (page (cond b 3 4) (taken l) 0 0).kind 8 ≡ false
    not_eight true = refl
    not_eight false = refl

    -- destroy, where it leaves the page, is of another slot
    by8 : Ends 8
    unfolding at_number watching
    by8 = record { other = λ o e. refl; moves_on = λ o e. go o e (eqb k c.a0) refl }
      where
        go : Before → writes l t (call 8 c) p ≡ false → (b : Bool) → eqb k c.a0 ≡ b
            → Inv r (cond b (destroyed (l.slot c.a0)) (l.slot k)).fence w.begun w.owing
        go o e true h = absurd (true≢false (sym (rw (o.kind_is, o.slot_is) h) ∙ e))
        go o e false h = o.inv

    by16 : Passed l t (call 16 c) → Ends 16
    unfolding at_number watching
    by16 q = record { other = λ o e. refl; moves_on = λ o e. go o (eqb k c.a0) refl }
      where
        new : Slot
        new = with_fence (begin (insiders_of l c.a0) (l.slot c.a0).fence) (l.slot c.a0)

        go : Before → (b : Bool) → eqb k c.a0 ≡ b
            → Inv r (cond b new (l.slot k)).fence (b || w.begun) (cond b (cond w.begun w.owing (λ j. is_in_slot k (w.seats.place j))) w.owing)
        go o true e =
            let z = eqb-true k c.a0 e in
            inv_begin r (l.slot c.a0).fence w.begun w.owing (insiders_of l c.a0) (λ j. is_in_slot k (w.seats.place j))
            (λ j. rw (z, s.sits.places_are j)) q.p8 (subst (λ x. Inv r (l.slot x).fence w.begun w.owing) z o.inv)
        go o false e = o.inv

    -- a record that 17 writes was of kind 7
    by17 : Passed l t (call 17 c) → Ends 17
    unfolding at_number watching
    by17 q = record { other = λ o e. absurd (omega (arith, seven e, o.kind_is)); moves_on = λ o e. o.inv }
      where
        seven : writes l t (call 17 c) p ≡ true → (t.page p).kind ≡ 7
        seven e =
            let d = call 17 c in
            let m = meant_is t l.pages c.a0 (first_guest d) (size d) p e in
            let x = guest_page (t.page p) in
            let z : (mapped l t d x && eqb (t.page (the_one l t d x)).kind 7) ≡ true
            = not-false _ (at_guest l t d (λ g. not (mapped l t d g && eqb (t.page (the_one l t d g)).kind 7)) x (as_wanted l t d q) m.here) in
            rw m.is-meant at (eqb-true (t.page (the_one l t d x)).kind 7 (and_right (mapped l t d x) _ z))

    by32 : Passed l t (call 32 c) → Ends 32
    unfolding at_number watching
    by32 q = record {
      other = λ o e. refl;
      moves_on = λ o e. rw (s.sits.places_are c.hart)
          (subst (λ (x : ℕ → Slot). Inv r (x k).fence w.begun (cond (is_in_slot k (l.hart c.hart).place) (put c.hart false w.owing) w.owing))
          (sym (left-slot l t c q)) (go o (is_in_slot k (l.hart c.hart).place)));
    }
      where
        go : Before → (b : Bool) → Inv r (left_slot l c.hart k b).fence w.begun (cond b (put c.hart false w.owing) w.owing)
        go o true = inv_strike r (l.slot k).fence w.begun w.owing c.hart o.inv
        go o false = o.inv

  fates : EachFate (for_tvm k) (λ l. (l.slot k).fence) 8 p k r
  unfolding at_number watching
  fates w l t c s = record {
    convert = λ q. record { other = λ o e. refl; moves_on = λ o e. o.inv };
    reclaim = λ q. record { other = λ o e. refl; moves_on = λ o e. o.inv };
    global-fence = λ q. record { other = λ o e. refl; moves_on = λ o e. o.inv };
    local_fence = λ q. record { other = λ o e. refl; moves_on = λ o e. o.inv };
    create = λ q. record { other = λ o e. not_eight w l t c s (within (index c.a0) 4 p); moves_on = λ o e. with-fence w l t c s (taken l) _ refl o };
    finalize = λ q. record { other = λ o e. refl; moves_on = λ o e. with-fence w l t c s c.a0 _ refl o };
    destroy = λ q. by8 w l t c s;
    region = λ q. record { other = λ o e. refl; moves_on = λ o e. with-fence w l t c s c.a0 _ refl o };
    pool = λ q. record { other = λ o e. refl; moves_on = λ o e. o.inv };
    measured = λ q. record { other = λ o e. refl; moves_on = λ o e. o.inv };
    zeros = λ q. record { other = λ o e. refl; moves_on = λ o e. o.inv };
    vcpu = λ q. record { other = λ o e. refl; moves_on = λ o e. with-fence w l t c s c.a0 _ refl o };
    enter = λ q. record { other = λ o e. refl; moves_on = λ o e. o.inv };
    tvm_fence = by16 w l t c s;
    invalidate = by17 w l t c s;
    validate = λ q. record { other = λ o e. refl; moves_on = λ o e. o.inv };
    remove = λ q. record { other = λ o e. refl; moves_on = λ o e. o.inv };
    leave = by32 w l t c s;
    open_ledger = λ q. absurd (true≢false (sym s.still_open ∙ not_again l t (call 33 c) q));
  }

-- the call that blocked it
abbrev Starts : ℕ → Ledger → Table → Call → Type 0
Starts p l t d = Passed l t d → eqb (t.page p).kind 8 ≡ false → eqb ((table l t d).page p).kind 8 ≡ true
    → (is_open (ledger l t d) ≡ true) × Live 8 (arg Tvm d) (l.slot (arg Tvm d)).fence.version ((ledger l t d).slot (arg Tvm d)).fence false (λ j. false) ((table l t d).page p)

starts : (p : ℕ) (l : Ledger) (t : Table) (c : Call) → Starts p l t (call 17 c)
unfolding at_number
starts p l t c q old now = (open_then l t (call 17 c) q refl, go (writes l t (call 17 c) p) now)
  where
    v : ℕ
    v = (l.slot c.a0).fence.version

    go : (b : Bool) → eqb (cond b (moved 8 c.a0 v (t.page p)) (t.page p)).kind 8 ≡ true
        → Live 8 c.a0 v (l.slot c.a0).fence false (λ j. false) (cond b (moved 8 c.a0 v (t.page p)) (t.page p))
    go true e = record { kind_is = refl; slot_is = refl; version-is = refl; inv = before refl refl }
    go false e = absurd (true≢false (sym e ∙ old))

by_slot : (p k : ℕ) (s : State) → (s.table.page p).kind ≡ 8 → (s.table.page p).slot ≡ k → not_done s.ledger (s.table.page p) ≡ not (done (s.ledger.slot k).fence (s.table.page p).version)
unfolding not_done
by_slot p k s e f = rw (e, f)

pub blocked_waits : BlockedWaits
blocked_waits t cs c p ds n turned =
    let s : State = after t cs in
    let k = arg Tvm c in
    let r = (s.ledger.slot k).fence.version in
    let d = accepted s c turned.value turned.accepted in
    let first = subst (Starts p s.ledger s.table) (ap (λ j. call j c) (sym n)) (starts p s.ledger s.table c) d.passes turned.before (rw d.table_is at turned.now) in
    waits (for_tvm k) (λ l. (l.slot k).fence) 8 p k r (fates p k r) (by_slot p k) t cs c ds turned (rw d.ledger-is first.0) (rw (d.ledger-is, d.table_is) first.1)
